-- The answers of crate `message` (document 01, 'Messages') in numbers, as a host gets them.
use Rattle.std.specs.Prelude.{ℕ}
use Rattle.std.proofs.Math.Option.{Option, none, some}
use Rattle.text.specs.declared.white.Place.{Place}
use Rattle.message.specs.Parse.{ParseAnswer}
use Rattle.message.specs.declared.Message.{Message}
use Rattle.message.specs.declared.Message.TheVariants.{NotifyAlive, NotifyByeBye, Search, Response}
use Rattle.message.specs.Build.{Built}
use Rattle.message_c.specs.declared.ParsedNumbers.{ParsedNumbers}
use Rattle.message_c.specs.declared.Written.{Written}

-- a kind, MX and three places
abbrev pub flat_of : ℕ → ℕ → Place → Place → Place → ParsedNumbers
flat_of kind mx a b c = record {
  kind = kind;
  mx = mx;
  first = a.start;
  first_len = a.len;
  second = b.start;
  second_len = b.len;
  third = c.start;
  third_len = c.len;
}

-- no place
abbrev pub nowhere : Place
nowhere = record { start = 0; len = 0 }

-- 1 alive, 2 byebye, 3 search, 4 response
abbrev pub message_numbers : Message → ParsedNumbers
message_numbers (NotifyAlive nt usn location) = flat_of 1 0 nt usn location
message_numbers (NotifyByeBye nt usn) = flat_of 2 0 nt usn nowhere
message_numbers (Search st mx) = flat_of 3 mx st nowhere nowhere
message_numbers (Response st usn location) = flat_of 4 0 st usn location

-- the numbers of the message; where there is none, the refusal, 7 or 8
abbrev pub numbers_in : ℕ → Option Message → ParsedNumbers
numbers_in refusal (some m) = message_numbers m
numbers_in refusal none = flat_of refusal 0 nowhere nowhere nowhere

abbrev pub numbers_of : ParseAnswer → ParsedNumbers
numbers_of a = numbers_in a.refusal a.message

-- what a build answered
abbrev pub built_of : Written → Built
built_of w = record { refusal = w.refusal; len = w.len }
