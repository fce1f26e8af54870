-- Document 01's worked cases, those marked with a star, as one table, with the delays of document 02's change 2. proofs/StarCases.antt shows that the definitions give every line of it.
use Rattle.std.specs.Prelude.{ℕ, zero, suc, ◌-◌, Bool, true, false, ◌&&◌, List, [], ◌∷◌, eqb}
use Prim.Native.String.{String}
use Rattle.std.specs.Bool.{beq}
use Rattle.text.specs.Bytes.{bytes, equal}
use Rattle.engine.specs.RefreshTimer.{timer_new, timer_step}
use Rattle.engine.specs.Target.{target_match}
use Rattle.engine.specs.Location.{rewritten}
use Rattle.engine.specs.Delay.{delay}
use Rattle.engine.specs.declared.refresh_timer.RefreshTimer.{RefreshTimer}

-- a line of the table, with what it must give last
pub data Case : Type 0 where
  matching : String → String → Bool → Case
  rewriting : String → ℕ → String → Case
  growing : ℕ → List ℕ → Case
  waiting : ℕ → ℕ → ℕ → Case

-- by how much the salvo instant grows in each of the next steps, taken as soon as it is due
unfoldable pub growths : ℕ → RefreshTimer → List ℕ
growths zero t = []
growths (suc n) t =
    ((timer_step t t.next_salvo).next_salvo - t.next_salvo) ∷ growths n (timer_step t t.next_salvo)

-- the definitions give the line
unfoldable pub holds : Case → Bool
holds (matching search candidate answer) = beq (target_match (bytes search) (bytes candidate)) answer
holds (rewriting location address answer) = equal (rewritten (bytes location) address) (bytes answer)
holds (growing seed answer) = equal (growths 4 (timer_new seed 0)) answer
holds (waiting seed mx answer) = eqb (delay seed mx) answer

unfoldable pub all_hold : List Case → Bool
all_hold [] = true
all_hold (c ∷ cs) = holds c && all_hold cs

-- 10.0.0.1
abbrev pub source_address : ℕ
source_address = 0x0A000001

unfoldable pub star_cases : List Case
star_cases =
    matching "t:1" "t:2" true
    ∷ matching "t:2" "t:1" false
    ∷ matching "t:+1" "t:1" true
    ∷ matching "ssdp:ALL" "t:1" false
    ∷ matching "t:18446744073709551616" "t:5" false
    ∷ rewriting "http://h:80/d" source_address "http://10.0.0.1:80/d"
    ∷ rewriting "http://h:80" source_address "http://10.0.0.1"
    ∷ rewriting "/d" source_address "/d"
    ∷ growing 0x01020304 (6040 ∷ 6030 ∷ 6020 ∷ 800010 ∷ [])
    ∷ waiting 4999 5 4999
    ∷ waiting 5000 5 0
    ∷ []
