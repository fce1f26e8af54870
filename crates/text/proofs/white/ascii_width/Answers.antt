-- `white::ascii_width`: each call's answer in its place.
use Rattle.text.proofs.white.ascii_width.Goals as goal

pub returns : goal.returns
returns c = cc
