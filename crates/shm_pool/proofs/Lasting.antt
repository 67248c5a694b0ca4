-- the machine of a plan that an agent makes last
use Rattle.std.proofs.Common.{◌≡◌, Bool, false, true, ◌&&◌, sym, subst}
use Rattle.shm_graph.specs.{declared.{ask.Me.Me, memo.Memo.Memo}, Asks.call_before, Laws.Control, Whole.fits_now}
use Rattle.plans.specs.{CallsControl.{calls_control, calls_of}, CallsFit.CallsFits, Plans.{Planned, PlanLaws}}
use Rattle.plans.specs.Proved.CallsKeep.{calls_begin}
use Rattle.shm_pool.specs.{Endings.Answer, Lasts.LastLaws}

module _ {P C B : Type 0} (k : Control C B) (q : Planned P C B Answer) (laws : PlanLaws k q) (made : Me → P) (may : Me → Memo → Type 0) (l : LastLaws k q made may) (me : Me) where
  -- it isn't finished
  pub unfinished : (calls_control k q.steered).finished (calls_of q.steered (made me)) ≡ false
  unfinished = (laws.calls (made me)).asks

  -- it is of its identity
  pub is_mine : (calls_control k q.steered).me (calls_of q.steered (made me)) ≡ me
  is_mine = l.me me

  -- it fits where it may begin
  pub fits_first : (r : Memo) → may me r → fits_now (calls_control k q.steered) (CallsFits k q) (calls_of q.steered (made me)) r r
  fits_first r h =
      let new = l.new me in
      let fresh : (calls_control k q.steered).fresh (calls_of q.steered (made me)) ≡ true = (λ i. new.first i && new.fresh i) in
      subst (λ (b : Bool). CallsFits k q (calls_of q.steered (made me)) r r (call_before b r.call)) (sym fresh) (calls_begin k q laws (made me) r new.first new.start (l.begins me r h))
