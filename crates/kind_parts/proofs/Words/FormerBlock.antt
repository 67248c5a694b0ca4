-- the exchange of a header in the second half of a change as a part: what it needs of the memo
use Rattle.std.proofs.Common.{◌≡◌, ℕ, ◌<◌, refl, sym, ap, ◌∙◌, subst, arith, Bool, true, false, cond, eqb, leb, not, ◌&&◌, [], inl, inr}
use Rattle.std.proofs.{lemmas.Bool.{cases_eq, cond-false, ne_eqb}, Math.Bool.and-false}
use Rattle.std.specs.List.{Contains}
use Rattle.shm_words.specs.{Headers.header_of, Layout.total_of}
use Rattle.shm_graph.specs.declared.{ask.{Ask.{Ask, TheVariants.Exchange}, Me.Me}, spot.Spot.Spot}
use Rattle.shm_graph.specs.declared.spot.Spot.TheVariants.{Head, Redo, RedoMore, Era}
use Rattle.shm_graph.specs.declared.memo.{Fact.TheVariants.Header as HeaderRead, ChangeStage.TheVariants.Lowering}
use Rattle.shm_graph.specs.declared.memo.{Memo.Memo, Op.{Op, TheVariants.Change}, Second.TheVariants.{Closed, Open}}
use Rattle.shm_graph.specs.{declared.memo.Step.Step, Agents.recovers, Blocks.classes, Changes.called, Core.core}
use Rattle.shm_graph.specs.{Events.Nothing, MemoAfterExchange.{committed, cut, exchanged_on, without_made}, Held.OpTie}
use Rattle.shm_graph.specs.{Laws.{event_of, framed}, References.words_of, Reach.sifted}
use Rattle.shm_graph.specs.MemoAfterRead.{header_read, is_held, op_refused, raised_by}
use Rattle.shm_graph.specs.declared.memo.Op.TheVariants as op
use Rattle.plans.specs.{EventWords.IsEventWord, Proved.{EventWords.event_in, WordSteps.IsThere}}
use Rattle.kind_laws.specs.HeaderExchanges.{dying_after}
use Rattle.kind_parts.specs.{Lowering.MayLowerFormer, WordParts.{FormerLowered, former_event}}
use Rattle.kind_parts.proofs.{BodyLoads.header_lost, ChangeLowered.change_lowered, Cores.header_core}
use Rattle.kind_parts.proofs.{MemoCommits.{known_lowered, lowered_is}, Words.Own.{at_step, word_for}}

module _ (first : Bool) (me : Me) (m : Memo) (l : me.who < me.geometry.clients) (p : Spot) (a b e n from to : ℕ) where
  abbrev c : ℕ
  c = me.who

  abbrev half : Op
  half = Change (Lowering Open) p a b e

  abbrev ask : Ask
  ask = Exchange a from to

  -- the block before is one that the redo record names
  pub former_there : m.op ≡ half → IsThere first me ask (FormerLowered me.geometry.wide c half from to) m (Head a)
  former_there o w r f st same =
      let tie = subst (OpTie me.geometry (classes w) (w (Redo c)) (w (RedoMore c)) (w (Era c c)) (words_of me.geometry.wide w)) (ap (λ (x : Memo). x.op) same ∙ o) (st.held.op c st.who) in
      tie.blocks.0

  -- what the exchange makes of a memo is in its core
  abbrev lowering : Memo → Memo
  lowering x =
      let k : Memo = cut c p (record x { op = Change (Lowering Closed) p a b e; made = without_made x a }) in
      sifted c (record k { dying = dying_after (header_of to).count a k.dying; known = known_lowered (header_of to).count a k.known })

  lowered_half : (x : Memo) → ◌≡◌ {A = Memo} (committed me.geometry.wide c x half to) (lowering x)
  lowered_half x = ap (sifted c) (lowered_is (header_of to).count a (cut c p (record x { op = Change (Lowering Closed) p a b e; made = without_made x a })))

  half_core : (x : Memo) → core x ≡ core m → core (committed me.geometry.wide c x half to) ≡ core (committed me.geometry.wide c m half to)
  half_core x i = ap core (lowered_half x) ∙ (ap (λ (y : Memo). core (lowering y)) i ∙ sym (ap core (lowered_half m)))

  -- the header of the block before is exchanged
  pub lower_former : first ≡ false → (0 < a) × (a < total_of me.geometry) → MayLowerFormer c m p a b e n from to → IsEventWord first me ask (former_event c a from) (FormerLowered me.geometry.wide c half from to) (word_for me ask) m
  lower_former going inside may =
      event_in first me ask (former_event c a from) (FormerLowered me.geometry.wide c half from to) m (Head a) inside.1 (former_there may.op)
      (λ t same. ap (λ (i : Me). cond (eqb t.seen from) (event_of i.who m.op) Nothing) same ∙ ap (λ o. cond (eqb t.seen from) (event_of c o) Nothing) may.op)
      (λ w r f st stands same. let there = former_there may.op w r f st same in
      elim (cases_eq (w (Head a)) from) [
        | inl found ↦ change_lowered me w r f [] a a b e n from to p st found (subst (λ (x : Memo). MayLowerFormer c x p a b e n from to) (sym same) may) (stands going) there
        | inr other ↦ header_lost me w r f [] a from to a st there other
      ])
      (λ w r f st stands same. let t : Step = framed me ask f (w (Head a)) in let x : Memo = called (r c) t in let seen : ℕ = w (Head a) in
      let i : core x ≡ core m = at_step r c m t same in
      let same_op : x.op ≡ half = ap (λ (y : Memo). y.op) i ∙ may.op in
      let lost : core (header_read me.geometry c false x a seen) ≡ core m = header_core me ask f (r c) a seen false ∙ (ap (λ (y : Memo). core (record y { op = op_refused y a seen })) same ∙ stays a seen) in
      record {
        found = tt;
        left = by (eqb seen from) x same_op i (header_read me.geometry c false x a seen) lost;
        read = λ other. subst (λ (y : Memo). Contains y.facts (HeaderRead seen)) (sym (cond-false (eqb seen from) (exchanged_on me.geometry.wide c x (Head a) to) (header_read me.geometry c false x a seen) (ne_eqb seen from other))) (0, omega arith, refl);
      })
    where
      stays : (d seen : ℕ) → core (record m { op = op_refused m d seen }) ≡ core m
      stays d seen =
          ap (λ o. core (record m { op = cond (not (recovers m) && (is_held (raised_by o) d && leb 1023 (header_of seen).count)) op.Nothing m.op })) may.op
          ∙ ap (λ z. core (record m { op = cond z op.Nothing m.op })) (and-false (not (recovers m)))

      by : (z : Bool) (x : Memo) → x.op ≡ half → core x ≡ core m → (y : Memo) → core y ≡ core m → core (cond z (committed me.geometry.wide c x x.op to) y) ≡ core (cond z (committed me.geometry.wide c m half to) m)
      by true x o i y j = ap (λ q. core (committed me.geometry.wide c x q to)) o ∙ half_core x i
      by false x o i y j = j
