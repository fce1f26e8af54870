-- What is printed of an answer (document 01, 'The session program') and, by `trace`, of a record.
use Rattle.std.specs.Prelude.{ℕ, ◌+◌, ◌*◌, List, [], ◌∷◌, ◌++◌, take, drop, get_or}
use Rattle.text.specs.Bytes.{bytes}
use Rattle.console.specs.Each.{each}
use Rattle.console.specs.Decimal.{number_then}
use Rattle.console.specs.Address.{address_then}
use Rattle.console.specs.Hexadecimal.{hex_text}
use Rattle.engine.specs.Sizes.{head_size}
use Rattle.engine.specs.declared.answer.Answer.{Answer}

abbrev tab : ℕ
tab = 9

abbrev blank : ℕ
blank = 32

abbrev line_end : ℕ
line_end = 10

-- refusal, records, matched, joined, alone, group, dropped, waiting, poll
unfoldable pub answer_line : Answer → List ℕ
answer_line a =
    each (number_then tab) (a.refusal ∷ a.records ∷ a.matched ∷ a.joined ∷ a.alone ∷ a.group ∷ a.dropped ∷ a.waiting ∷ []) ++ number_then line_end a.poll

-- `A` mask, number told, leave outcome
unfoldable pub news_line : Answer → List ℕ
news_line a = bytes "A " ++ (number_then blank a.mask ++ (number_then blank a.told ++ number_then line_end a.leave))

-- the number of two bytes, the higher first
unfoldable pub number_at : ℕ → List ℕ → ℕ
number_at at s = 256 * get_or (drop at s) 0 0 + get_or (drop at s) 1 0

-- `R` destination, port, source, length and the message in hexadecimal: the record's head has destination 4 bytes, port 2, source 4, length 2
unfoldable pub head_line : List ℕ → List ℕ
head_line s = bytes "R " ++ (address_then blank s ++ (number_then blank (number_at 4 s) ++ address_then blank (drop 6 s)))

unfoldable pub record_line : List ℕ → List ℕ
record_line s = head_line s ++ (number_then blank (number_at 10 s) ++ (hex_text (take (number_at 10 s) (drop head_size s)) ++ (line_end ∷ [])))
