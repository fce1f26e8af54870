-- `buffer::put_block`: the copy is the text.
use Rattle.text.proofs.Writing as laws
use borrow.Author.Rules.{rules}
use Rattle.text.proofs.buffer.put_block.Goals as goal

pub slice_bounds-put_bytes-end : goal.slice_bounds-put_bytes-end
slice_bounds-put_bytes-end c = search rules

pub put_bytes-requires : goal.put_bytes-requires
put_bytes-requires c = search rules

pub slice_bounds-put_bytes-end-2 : goal.slice_bounds-put_bytes-end-2
slice_bounds-put_bytes-end-2 c = search rules

pub put_bytes-requires-2 : goal.put_bytes-requires-2
put_bytes-requires-2 c = search rules

pub shape_of-buf : goal.shape_of-buf
shape_of-buf c = search rules

pub returns : goal.returns
returns c =
    let copied = laws.filled c.requires.0 c.put_bytes.ensures in
    laws.text c.put_bytes-2.ensures copied
