-- `put_search` meets its contract: the parts of the text, each right behind the one before.
use Rattle.text.specs.Bytes.{bytes}
use Rattle.message.specs.Build.{header_line, search_line, host_text}
use Rattle.text.proofs.Writing.{◌⨟◌, text}
use Rattle.message.proofs.Texts.{search-row}
use Rattle.message.proofs.build.put_search.Goals as goal

pub returns : goal.returns
unfolding header_line search_line host_text bytes
returns c =
    let a = c.args in
    let first = c.put-a.ensures in
    let host = c.put-b.ensures in
    let fixed = c.put-c.ensures in
    let target = c.put_header-d.ensures.put in
    let blank = c.put.ensures in
    text (first ⨟ host ⨟ fixed ⨟ target ⨟ blank) (search-row a.service.now)
