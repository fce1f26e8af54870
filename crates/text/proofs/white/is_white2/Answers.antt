-- `white::is_white2`: each call's answer in its place.
use Rattle.text.proofs.white.is_white2.Goals as goal

pub returns : goal.returns
returns c = cc
