-- `white::is_white1`: each call's answer in its place.
use Rattle.text.proofs.white.is_white1.Goals as goal

pub returns : goal.returns
returns c = cc
