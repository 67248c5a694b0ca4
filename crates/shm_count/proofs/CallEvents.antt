-- the own events of a call in a run are those that its machine tells
use Rattle.std.proofs.Common.{◌≡◌, ℕ, true, refl, sym, ap, subst, Bool, List, []}
use Rattle.std.specs.List.{filter}
use Rattle.shm_graph.specs.{declared.{memo.Memo.Memo, run.Move.Move}, Asks.{Trail, call_before}, Events.Event}
use Rattle.shm_graph.specs.{Laws.{Control, Laws}, Runs.{State, memos_of}, Tells.{Tells, is_event, happens_along}}
use Rattle.shm_graph.proofs.Runs.OwnEvents.{own_told}
use Rattle.shm_count.specs.Calling.{IsCall, happened_in}

pub call_tells : {S A : Type 0} (k : Control S A) (fits : S → Memo → Memo → Trail → Type 0) (gives : S → Memo → Memo → Trail → A → Type 0) → Laws k fits gives → (does : S → ℕ → Event) → Tells k fits does → (m : S) (a : State) (ms : List Move) (b : State) (tr : Trail)
    → k.fresh m ≡ true → fits m (memos_of a.accounts (k.me m).who) (memos_of a.accounts (k.me m).who) [] → IsCall k m a ms b tr → happened_in (k.me m) a ms ≡ happens_along k does m tr
call_tells k fits gives laws does tells m a ms b tr fresh fit call =
    let c = (k.me m).who in
    let r : Memo = memos_of a.accounts c in
    ap (filter is_event) (own_told k fits gives laws does tells (k.me m).geometry c a ms b m r tr refl call.who call.account call.held call.unbroken call.run
    (subst (λ (x : Bool). fits m r r (call_before x r.call)) (sym fresh) fit) call.goes call.steps)
