-- count steps at each kind of slot as parts, by what they leave of the memo: what is proved of it
use Rattle.std.proofs.{Common.{◌≡◌, ◌+◌, ◌^◌, ◌<◌, refl, ap, subst, arith}, lemmas.Bool.eq-eqb}
use Rattle.shm_graph.specs.{declared.{ask.Me.Me, memo.Memo.Memo}, Held.room_of, Views.own_word}
use Rattle.shm_graph.specs.declared.spot.Spot.TheVariants as spot
use Rattle.shm_graph.specs.declared.memo.Op.TheVariants as op
use Rattle.plans.specs.Parts.{IsHeld}

-- in a held state in which no step of an identity is in progress its own era leaves room for two in a header
pub era_room : (me : Me) (m : Memo) → IsHeld me m → me.who < me.geometry.clients → m.op ≡ op.Nothing → own_word m.own (spot.Era me.who me.who) + 1 < 2 ^ 47
era_room me m (w, r, h, same) l idle = subst (λ (x : Memo). x.op ≡ op.Nothing → own_word x.own (spot.Era me.who me.who) + 1 < 2 ^ 47) same go idle
  where
    go : (r me.who).op ≡ op.Nothing → own_word (r me.who).own (spot.Era me.who me.who) + 1 < 2 ^ 47
    go none =
        let room = (h.own me.who l).room in
        let mine = h.mine me.who l (spot.Era me.who me.who) (eq-eqb me.who me.who refl) in
        let least : room_of (r me.who).op ≡ 2 = ap room_of none in
        omega arith
