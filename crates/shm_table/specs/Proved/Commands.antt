-- what commands that bring a value block into the own table share: when they may begin, why they are refused, and what is settled before its root is dropped: what is proved of it
use Rattle.std.proofs.Common.{◌≡◌, ◌≢◌, ℕ, ◌<◌, ◌≤◌, ◌∙◌, sym, subst, List, ◌++◌}
use Rattle.std.proofs.lemmas.List.Elements.{All-append, All-weaker}
use Rattle.std.specs.List.{All, Contains}
use Rattle.shm_graph.specs.{declared.{ask.Me.Me, memo.Memo.Memo}, Views.own_word}
use Rattle.shm_graph.specs.declared.spot.Spot.TheVariants as spot
use Rattle.kind_laws.proofs.Lists.{filter_from}
use Rattle.shm_count.specs.{Roots.root_word, Tear.{Events.Visit, is_outside}}
use Rattle.shm_ref.specs.Lefts.{Stopped}
use Rattle.shm_table.specs.declared.answer.PutFault.{PutFault, TheVariants.{EraSpent, RootsFull, Full, CountFull}}
use Rattle.shm_table.specs.{Staying.PutCause, Proved.Staying.Laws.spent_later, Commands.CommandCause}
use Rattle.shm_table.specs.declared.answer.PutFault.TheVariants as fault

-- ---- why

-- why it got no root, and no entry
pub cause_fetch : (me : Me) (m r : Memo) (f : PutFault) → PutCause me m r f → CommandCause me m r f
cause_fetch me m r fault.RootsFull h = (0, λ j l n. h j l)
cause_fetch me m r _ h = h

-- why the key hasn't got it, where root k was empty before
pub cause_put : (me : Me) (k : ℕ) (m x r : Memo) (f : PutFault) → k < 16 → root_word me.who m k ≡ 0 → ((j : ℕ) → k ≢ j → root_word me.who x j ≡ root_word me.who m j) → PutCause me x r f → CommandCause me m r f
cause_put me k m x r fault.RootsFull low empty others h = (k, λ j l n z. h j l (others j n ∙ z))
cause_put me k m x r (fault.Full s b) low empty others h = (k, low, empty)
cause_put me k m x r _ low empty others h = h

-- it stays why, as the own era doesn't sink
pub cause_then : (me : Me) (m x r : Memo) (f : PutFault) → own_word x.own (spot.Era me.who me.who) ≤ own_word r.own (spot.Era me.who me.who) → CommandCause me m x f → CommandCause me m r f
cause_then me m x r (fault.EraSpent e) era h = spent_later me.who e x r era h
cause_then me m x r _ era h = h

-- what a tear-down left before is left still where one more was stopped
pub left_too : (me : Me) (m r : Memo) (us vs : List Visit) (era : ℕ) → All (λ (x : Visit). Contains m.dying x.block) us → Stopped me m r era vs → All (λ (x : Visit). Contains r.dying x.block) (us ++ vs)
left_too me m r us vs era h w =
    let still = λ (x : Visit) (y : Contains m.dying x.block). (filter_from (is_outside vs) r.dying x.block (subst (λ (xs : List ℕ). Contains xs x.block) (sym w.others) y)).0 in
    let before = All-weaker (λ (x : Visit). Contains m.dying x.block) (λ (x : Visit). Contains r.dying x.block) still us h in
    All-append (λ (x : Visit). Contains r.dying x.block) us vs before w.left
