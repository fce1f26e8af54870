-- What a search's target asks for, as one look at it finds: every type, the very same type, or also a later version (document 01, '`target_match` and `rewrite_host`').
use Rattle.std.specs.Prelude.{ℕ, ◌+◌, Bool, cond, ◌&&◌, List, eqb, ltb, length, take, drop, get_or}
use Rattle.text.specs.Bytes.{equal}
use Rattle.text.specs.Number.{number, max64}
use Rattle.std.specs.Prelude.{Option, Some, None}
use Rattle.engine.specs.Target.{ssdp_all, colon, last_colon, has_colon, version, at_least}
use Rattle.engine.specs.declared.wanted.Wanted.{Wanted}
use Rattle.engine.specs.declared.wanted.Wanted.TheVariants.{All, Same, Version}

-- a number behind the last colon asks for that version or a later one
abbrev pub versioned : ℕ → Option ℕ → Wanted
versioned place (Some n) = Version place n
versioned place None = Same

unfoldable pub wanted_of : List ℕ → Wanted
wanted_of search = cond (equal search ssdp_all) All (cond (has_colon search) (versioned (last_colon search) (version search)) Same)

-- the same text before a colon at a place, and behind it a number that is at least n
unfoldable pub later_in : List ℕ → ℕ → ℕ → List ℕ → Bool
later_in search place n candidate =
    ltb place (length candidate) && eqb (get_or candidate place 0) colon && equal (take place search) (take place candidate)
    && at_least (Some n) (number max64 (drop (place + 1) candidate))
