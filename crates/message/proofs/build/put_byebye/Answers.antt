-- `put_byebye` meets its contract: the parts of the text, each right behind the one before.
use Rattle.text.specs.Bytes.{bytes}
use Rattle.message.specs.Build.{header_line, header_lines, server_text, boot_headers}
use Rattle.text.proofs.Writing.{◌⨟◌, text}
use Rattle.message.proofs.Texts.{byebye-row}
use Rattle.message.proofs.build.put_byebye.Goals as goal

pub returns : goal.returns
unfolding header_line header_lines server_text boot_headers bytes
returns c =
    let a = c.args in
    let first = c.put_notify-a.ensures.put in
    let type = c.put_header-b.ensures.put in
    let byebye = c.put-c.ensures in
    let name = c.put_header-d.ensures.put in
    let end = c.put.ensures in
    text (first ⨟ type ⨟ byebye ⨟ name ⨟ end) (byebye-row a.service.now a.name.now)
