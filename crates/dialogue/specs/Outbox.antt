-- What `trace` sees of the outbox: every byte is marked before a call, and a call leaves the marks behind its last record.
use Rattle.std.specs.Prelude.{ℕ, ◌+◌, ◌*◌, ◌/◌, Bool, cond, ◌&&◌, ◌||◌, List, [], eqb, ltb, length, take, drop}
use Rattle.std.specs.List.{list_all, range_with_len}
use Rattle.console.specs.Each.{all}
use Rattle.engine.specs.Sizes.{record_size, head_size}
use Rattle.dialogue.specs.Printing.{number_at}

abbrev pub mark : ℕ
mark = 165

-- record k, if the outbox has room for one
unfoldable pub record_at : ℕ → List ℕ → List ℕ
record_at k outbox = cond (ltb k (length outbox / record_size)) (take record_size (drop (record_size * k) outbox)) []

-- zeros behind the message
unfoldable pub padded : List ℕ → Bool
padded s = all (eqb 0) (drop (head_size + number_at 10 s) s)

-- the first n records are
abbrev pub all_padded : ℕ → List ℕ → Bool
all_padded n outbox = list_all (λ k. padded (record_at k outbox)) (range_with_len 0 n)

-- a call that wrote n records left the rest marked, and each record is padded; more records than there is room for show nothing
unfoldable pub clean : ℕ → List ℕ → Bool
clean n outbox = ltb (length outbox / record_size) n || (all (eqb mark) (drop (record_size * n) outbox) && all_padded n outbox)
