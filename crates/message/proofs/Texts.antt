-- The built texts in a row, part behind part, as the code writes them.
use mathlib.Core.Path.{◌≡◌}
use mathlib.Core.List.{List, ◌++◌, append_assoc}
use Prim.Native.Nat.{ℕ}
use Rattle.text.specs.Bytes.{bytes}
use Rattle.message.specs.Build.{search_text, response_text, notify_text, byebye_text, search_headers, response_headers, notify_headers, byebye_headers, message, header_lines, header_line, field, crlf, search_line, response_line, notify_line, host_text, max_age_text, server_text, boot_headers}

abbrev pub notify_start : List ℕ
notify_start = notify_line ++ crlf ++ header_line (field "HOST" host_text) ++ header_line (field "CACHE-CONTROL" max_age_text)

abbrev server : List ℕ
server = header_line (field "SERVER" server_text) ++ header_lines boot_headers

abbrev search : List ℕ
search = header_line (field "MAN" (bytes "\"ssdp:discover\"")) ++ header_line (field "MX" (bytes "5"))

pub search-row : (st : List ℕ)
    → search_line ++ crlf ++ header_line (field "HOST" host_text) ++ search ++ header_line (field "ST" st) ++ crlf ≡ search_text st
unfolding search_text search_headers message header_lines
search-row st = simp append_assoc

pub response-row : (st usn loc : List ℕ)
    → response_line ++ crlf ++ header_line (field "CACHE-CONTROL" max_age_text) ++ header_line (field "ST" st) ++ header_line (field "USN" usn)
    ++ header_line (field "LOCATION" loc) ++ server
    ≡ response_text st usn loc
unfolding response_text response_headers message header_lines
response-row st usn loc = simp append_assoc

pub notify-row : (nt usn loc : List ℕ)
    → notify_start ++ header_line (field "LOCATION" loc) ++ header_line (field "NT" nt) ++ header_line (field "NTS" (bytes "ssdp:alive"))
    ++ header_line (field "USN" usn) ++ server
    ≡ notify_text nt usn loc
unfolding notify_text notify_headers message header_lines
notify-row nt usn loc = simp append_assoc

pub byebye-row : (nt usn : List ℕ)
    → notify_start ++ header_line (field "NT" nt) ++ header_line (field "NTS" (bytes "ssdp:byebye")) ++ header_line (field "USN" usn) ++ server
    ≡ byebye_text nt usn
unfolding byebye_text byebye_headers message header_lines
byebye-row nt usn = simp append_assoc
