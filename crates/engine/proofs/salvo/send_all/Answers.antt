-- One run behind the other, each from one address alone.
use Rattle.std.proofs.Common.{refl, map, length, ap, arith}
use Rattle.engine.specs.Records.{SearchFrom, notify, searches_of}
use Rattle.engine.specs.Lent.{names_lent, searches_lent}
use Rattle.engine.proofs.Sending.{room-first, both, both-fit, both-fits, both-room, sent-as}
use Rattle.engine.proofs.TableRuns.{searches-from, names-from}
use Rattle.engine.proofs.salvo.send_all.Goals as goal

pub searches_on_all-k-requires : goal.searches_on_all-k-requires
searches_on_all-k-requires c =
    let a = c.args in
    let searches = searches_of (searches_lent a.tables.now) in
    omega (arith, room-first a.outbox.now 0 (map (SearchFrom a.source) searches) (map (λ x. notify x a.source) (names_lent a.tables.now)) c.requires, ap length (searches-from a.source searches))

pub overflow_mul-k : goal.overflow_mul-k
overflow_mul-k c =
    let a = c.args in
    let p = searches-from a.source (searches_of (searches_lent a.tables.now)) in
    omega (arith, both-fit (map (λ x. notify x a.source) (names_lent a.tables.now)) c.requires (sent-as c.searches_on_all-k.ensures p))

pub slice_bounds-names_on_all-count : goal.slice_bounds-names_on_all-count
slice_bounds-names_on_all-count c =
    let a = c.args in
    let p = searches-from a.source (searches_of (searches_lent a.tables.now)) in
    omega (arith, both-fit (map (λ x. notify x a.source) (names_lent a.tables.now)) c.requires (sent-as c.searches_on_all-k.ensures p))

pub slice_bounds-names_on_all-start : goal.slice_bounds-names_on_all-start
slice_bounds-names_on_all-start c =
    let a = c.args in
    let p = searches-from a.source (searches_of (searches_lent a.tables.now)) in
    omega (arith, both-fit (map (λ x. notify x a.source) (names_lent a.tables.now)) c.requires (sent-as c.searches_on_all-k.ensures p))

pub overflow_add-result : goal.overflow_add-result
overflow_add-result c =
    let a = c.args in
    let p = searches-from a.source (searches_of (searches_lent a.tables.now)) in
    let q = names-from a.source (names_lent a.tables.now) in
    omega (arith, both-fits c.requires (sent-as c.searches_on_all-k.ensures p) (sent-as c.names_on_all.ensures q))

pub names_on_all-requires : goal.names_on_all-requires
names_on_all-requires c =
    let a = c.args in
    let p = searches-from a.source (searches_of (searches_lent a.tables.now)) in
    let q = names-from a.source (names_lent a.tables.now) in
    let room = both-room (map (λ x. notify x a.source) (names_lent a.tables.now)) c.requires (sent-as c.searches_on_all-k.ensures p) in
    omega (arith, room, ap length q)

pub returns : goal.returns
returns c =
    let a = c.args in
    let p = searches-from a.source (searches_of (searches_lent a.tables.now)) in
    let q = names-from a.source (names_lent a.tables.now) in
    both c.requires (sent-as c.searches_on_all-k.ensures p) (sent-as c.names_on_all.ensures q) refl
