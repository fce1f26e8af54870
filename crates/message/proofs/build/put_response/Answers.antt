-- `put_response` meets its contract: the parts of the text, each right behind the one before.
use Rattle.text.specs.Bytes.{bytes}
use Rattle.message.specs.Build.{header_line, header_lines, response_line, max_age_text, server_text, boot_headers}
use Rattle.text.proofs.Writing.{◌⨟◌, text}
use Rattle.message.proofs.Texts.{response-row}
use Rattle.message.proofs.build.put_response.Goals as goal

pub returns : goal.returns
unfolding header_line header_lines response_line max_age_text server_text boot_headers bytes
returns c =
    let a = c.args in
    let first = c.put-a.ensures in
    let age = c.put-b.ensures in
    let target = c.put_header-c.ensures.put in
    let name = c.put_header-d.ensures.put in
    let location = c.put_header-e.ensures.put in
    let end = c.put.ensures in
    text (first ⨟ age ⨟ target ⨟ name ⨟ location ⨟ end) (response-row a.service.now a.name.now a.location.now)
