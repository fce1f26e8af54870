-- The worked cases of document 01, all in one theorem about the definitions, by computation.
use mathlib.Core.Path.{◌≡◌, refl}
use mathlib.Core.Bool.{true}
use Rattle.text.specs.Bytes.{bytes, agree, index_of, last_index_of, index_of_text, starts_with, first_place}
use Rattle.text.specs.Range.{every}
use Rattle.text.specs.Number.{number, unsigned, more, value}
use Rattle.engine.specs.RefreshTimer.{seed_byte, period, timer_new, timer_step}
use Rattle.engine.specs.Target.{version_match, target_match}
use Rattle.engine.specs.Location.{decimal, dotted, scheme_end, host_length, rewritten}
use Rattle.engine.specs.Delay.{delay}
use Rattle.engine.specs.StarCases.{growths, holds, all_hold, star_cases}

pub star_cases_lem : all_hold star_cases ≡ true
unfolding star_cases all_hold holds growths seed_byte period timer_new timer_step version_match target_match decimal dotted scheme_end host_length rewritten delay bytes agree index_of last_index_of index_of_text starts_with first_place number unsigned more value every
star_cases_lem = refl
