-- The same type is wanted, whatever else the definition tests.
use Rattle.std.proofs.Common.{sym, ◌∙◌}
use Rattle.text.specs.Bytes.{equal}
use Rattle.engine.specs.Target.{ssdp_all, version_match, target_match}
use Rattle.engine.proofs.Matching.{or_second}
use Rattle.engine.proofs.target.target_match.Goals as goal

pub returns-then-equal : goal.returns-then-equal
unfolding target_match
returns-then-equal c =
    let a = c.args in
    rw (sym c.equal.ensures ∙ c.if-equal.true) (sym (or_second (equal a.search.now ssdp_all) (version_match a.search.now a.candidate.now)))
