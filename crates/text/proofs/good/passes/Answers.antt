-- `good::passes`: each call's answer in its place.
use Rattle.text.specs.Good.{good_text}
use Rattle.text.proofs.good.passes.Goals as goal

pub returns : goal.returns
unfolding good_text
returns c = cc
