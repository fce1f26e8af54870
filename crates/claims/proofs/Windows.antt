-- An accepted search has a window, and a remainder is less than it: what it opens is due inside, and what it joins keeps its instant (specs/Window states it).
use mathlib.Core.Path.{◌≡◌, refl, sym, ◌∙◌, ap, subst}
use mathlib.Core.Bool.{Bool, true, false}
use mathlib.Core.List.Memᴰ.{head as first}
use mathlib.Core.List.{List, [], ◌∷◌, map, Memᴰ as In}
use Prim.Native.Nat.{ℕ, ◌+◌, ◌<◌}
use Rattle.std.specs.Prelude.{Some}
use native.Mathlib.Omega.{arith}
use Rattle.engine.specs.Delay.{delay}
use Rattle.engine.specs.Held.{Held, Advertisement}
use Rattle.engine.specs.Calls.{Call, Query, Act, Asks, acts}
use Rattle.engine.specs.Replies.{due_at, same_sender, shared, asked_need, hits, asked, result, results}
use Rattle.engine.specs.Engine.{Step, accepted}
use Rattle.engine.specs.Arrays.{Engine, held}
use Rattle.engine.specs.Promises.{Answered, Answers}
use Rattle.engine.specs.declared.advertisement.Endpoint.{Endpoint}
use Rattle.engine.specs.declared.advertisement.ResponseNeeded.{ResponseNeeded}
use Rattle.engine.specs.declared.advertisement.ResponseNeeded.TheVariants.{None, Multicast, Unicast}
use Rattle.engine.proofs.Accepted.{brings}
use Rattle.engine.proofs.Answering.{step-accepted}
use Rattle.engine.proofs.Members.{Each, each_at, each-by, each_map}
use Rattle.engine.proofs.ReplyDelay.{delay-inside}
use Rattle.claims.specs.Window.{InTime, opened, kept}
use Rattle.claims.proofs.Accepting.{was_accepted}

shared-due : (same : Bool) (due : ℕ) (sender : Endpoint) (receiver : ℕ) → Some due ≡ due_at (shared same due sender receiver)
shared-due true due sender receiver = refl
shared-due false due sender receiver = refl

module _ (seed : ℕ) (q : Query) (window : 0 < q.mx) (before : List Advertisement) where
  need-in-time : (b : Advertisement) → In b before → (hit : Bool) (n : ResponseNeeded) → b.needed ≡ n →
      InTime q before b.name (asked_need hit (q.time + delay seed q.mx) q n)
  need-in-time b i false n e = kept b i refl (ap due_at e)
  need-in-time b i true None e = opened (q.time + delay seed q.mx) refl (omega arith) (omega (arith, delay-inside seed q.mx window))
  need-in-time b i true (Multicast due) e = kept b i refl (ap due_at e)
  need-in-time b i true (Unicast due sender receiver) e = kept b i refl (ap due_at e ∙ shared-due (same_sender sender q.sender) due sender receiver)

  all-in-time : Each (λ a. InTime q before a.name a.needed) (map (asked (q.time + delay seed q.mx) q) before)
  unfolding asked
  all-in-time = each_map (asked (q.time + delay seed q.mx) q) (λ b i. need-in-time b i (hits q b) b.needed refl) (each-by before (λ b i. i))

-- what an accepted search leaves
asked_of : (h : Held) (c : Call) (q : Query) → acts c ≡ Asks q ∷ [] →
    (accepted h c).after.advertisements ≡ map (asked (q.time + delay h.context.seed q.mx) q) h.advertisements
unfolding accepted results result
asked_of h c q s = ap (λ (xs : List Act). (results h.context.seed h.advertisements xs).advertisements) s

pub in_time : {e : Engine} {c : Call} {outbox outbox' : List ℕ} {r : Answered} (q : Query) → Answers e c outbox outbox' r → r.answer.refusal ≡ 0 → acts c ≡ Asks q ∷ [] →
    (a : Advertisement) → In a (held r.engine).advertisements → InTime q (held e).advertisements a.name a.needed
in_time {e} {c} {r = r} q d z s =
    let k = was_accepted d z in
    let b = each_at (brings (held e) c k) (Asks q) (subst (λ (xs : List Act). In (Asks q) xs) (sym s) (first refl)) in
    let f : (held r.engine).advertisements ≡ map (asked (q.time + delay (held e).context.seed q.mx) q) (held e).advertisements =
    ap (λ (h : Held). h.advertisements) d.engine ∙ ap (λ (x : Step). x.after.advertisements) (step-accepted (held e) c k) ∙ asked_of (held e) c q s in
    each_at (rw f (all-in-time (held e).context.seed q b.1 (held e).advertisements))
