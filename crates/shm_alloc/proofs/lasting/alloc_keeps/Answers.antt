use Rattle.std.proofs.Common.{◌≡◌, ◌≢◌, ℕ, ◌<◌, refl, sym, ap, ◌∙◌, subst, List, Result}
use Rattle.std.proofs.lemmas.Bool.{cond-true, cond-false, eq-eqb, ne_eqb}
use Rattle.std.specs.Prelude.{Ok, Err, IfErr, IfOk, slice_index}
use Rattle.shm_graph.specs.{declared.{memo.{Memo.Memo, Stored.Stored}, spot.Spot.TheVariants.Root}, Asks.Trail}
use Rattle.shm_graph.specs.{Events.Event, Held.is_loose, Operations.IsHeld, Views.own_word}
use Rattle.shm_count.specs.{declared.answer.Made.Made, Roots.root_word, Step.Control.IsInside}
use Rattle.shm_count.proofs.RootSpots.{roots_reached}
use Rattle.shm_alloc.specs.declared.{alloc.AllocFault.AllocFault, point.AllocState.AllocState}
use Rattle.shm_alloc.specs.Alloc.{AsPart.AllocLeaves, MadeGives}
use Rattle.shm_alloc.proofs.{MadeBlocks.block_inside, MadeRoots.made_word}
use Rattle.shm_alloc.proofs.lasting.alloc_keeps.Goals as goal

module _ (m : AllocState) (r0 r : Memo) (tr : Trail) (es : List Event) where
  number : (a : Result Made AllocFault) → AllocLeaves m r0 r tr es a → IfOk a (λ x. x.root < 16)
  number (Ok x) h = h.holds.gives.root
  number (Err f) h = tt

  named : (a : Result Made AllocFault) → AllocLeaves m r0 r tr es a → IfOk a (λ x. root_word m.me.who r x.root ≡ x.block)
  named (Ok x) h = made_word m.me m.request r0 r x x.root h.holds.gives ∙ cond-true _ _ _ (eq-eqb x.root x.root refl)
  named (Err f) h = tt

  others : (a : Result Made AllocFault) → AllocLeaves m r0 r tr es a → IfOk a (λ x. (k : ℕ) → k ≢ x.root → root_word m.me.who r k ≡ root_word m.me.who r0 k)
  others (Ok x) h = λ k n. made_word m.me m.request r0 r x k h.holds.gives ∙ cond-false _ _ _ (ne_eqb x.root k (λ e. n (sym e)))
  others (Err f) h = tt

  inside : (a : Result Made AllocFault) → AllocLeaves m r0 r tr es a → m.me.who < m.me.geometry.clients → IsHeld m.me r → IfOk a (λ x. IsInside m.me x.block)
  inside (Ok x) h l (w, rs, held, same) = block_inside m.me m.request r0 x w rs held l (subst (λ (y : Memo). MadeGives m.me m.request r0 y x) (sym same) h.holds.gives)
  inside (Err f) h l held = tt

  refused : (a : Result Made AllocFault) → AllocLeaves m r0 r tr es a → IfErr a (λ f. (k : ℕ) → root_word m.me.who r k ≡ root_word m.me.who r0 k)
  refused (Ok x) h = tt
  refused (Err f) h = λ k. ap (λ (o : List Stored). own_word o (Root m.me.who k)) h.holds.gives.0.own

pub returns-clause-number : goal.returns-clause-number
returns-clause-number c m r0 r tr es a h = number m r0 r tr es a h

pub returns-clause-named : goal.returns-clause-named
returns-clause-named c m r0 r tr es a h = named m r0 r tr es a h

pub returns-clause-roots : goal.returns-clause-roots
returns-clause-roots c m r0 r tr es a h = others m r0 r tr es a h

pub returns-clause-inside : goal.returns-clause-inside
returns-clause-inside c m r0 r tr es a h l held = inside m r0 r tr es a h l held

pub returns-clause-refused : goal.returns-clause-refused
returns-clause-refused c m r0 r tr es a h = refused m r0 r tr es a h

pub returns-clause-dying : goal.returns-clause-dying
returns-clause-dying c m r0 r tr es a h = h.holds.stays.dying

pub returns-clause-left : goal.returns-clause-left
returns-clause-left c m r0 r tr es a h =
    let s = h.holds.stays in
    record {
      latch = s.latch;
      unsent = λ j. ap (λ (xs : List ℕ). slice_index xs j) s.unsent;
      untaken = λ j. ap (λ (xs : List ℕ). slice_index xs j) s.untaken;
      loose = ap is_loose s.part;
    }

pub returns-clause-reached : goal.returns-clause-reached
returns-clause-reached c m r0 r tr es a h = roots_reached m.me.who r h.holds.idle.op
