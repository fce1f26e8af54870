-- Advertisements plus searches, times addresses on up links.
use mathlib.Core.Path.{sym, ◌∙◌, ap}
use Prim.Native.Nat.{ℕ, ◌+◌, ◌*◌}
use Rattle.engine.specs.Sizes.{record_size}
use Rattle.engine.specs.Need.{searches_count, record_count, need}
use Rattle.engine.specs.Engine.{names_of}
use Rattle.engine.specs.Arrays.{searches_in, held}
use Rattle.engine.proofs.NameRows.{names-length}
use Rattle.engine.proofs.need.of_refresh.Goals as goal

pub returns : goal.returns
unfolding need record_count names_of held
returns c numbers texts room =
    let a = c.args in
    let names = ap (λ (k : ℕ). k + searches_count (searches_in a.head.now a.searches.now)) (sym (names-length a.head.now numbers texts)) in
    λ i. record_size * ((c.entry_count-n.ensures.0 ∙ names) i * c.up_count.ensures.0 i)
