-- the laws of a join
use Rattle.std.proofs.Common.{◌≡◌, ℕ, ◌<◌, refl, sym, ap, ◌∙◌, arith, false, subst, eq-eqb, inl, inr, ◌⊎◌, List, [], ◌∷◌, ◌++◌, Option}
use Rattle.std.proofs.lemmas.Bool.{true≢false, Decides.nat_tests}
use Rattle.std.specs.{Prelude.{None, Some}, List.Contains}
use Rattle.shm_words.specs.{Layout.address, declared.geometry.Geometry.Geometry}
use Rattle.shm_words.specs.declared.place.Place.TheVariants as place
use Rattle.shm_graph.specs.declared.{ask.{Ask.TheVariants.Store, Me.Me}, spot.Spot.Spot}
use Rattle.shm_graph.specs.declared.spot.Spot.TheVariants.{Status, Hold, Segment, Page, Head, Tag, Body}
use Rattle.shm_graph.specs.declared.memo.{Op.TheVariants.Nothing, Making.Making, Memo.Memo, Step.Step}
use Rattle.shm_graph.specs.{Views.{view, own_word}, Held.{HeldAt, MakingTie}, Idle.hold_word}
use Rattle.shm_graph.specs.{Spots.{spot_at, segment_of}, Blocks.classes, Asks.{Trail, pair}, Changes.called}
use Rattle.shm_graph.specs.{Laws.{Laws, EachStepKeeps, Then, framed}, Core.core}
use Rattle.shm_graph.specs.declared.memo.Status.TheVariants as status
use Rattle.shm_graph.proofs.{Spots.{Spotting.in_pool, SpotPlaces.spot-place}, Machines.Calling.called_part}
use Rattle.shm_graph.proofs.StepKinds.Keeping.{live_kept}
use Rattle.kind_parts.proofs.Cores.{called_core}
use Rattle.shm_recover.specs.declared.join.{JoinPoint.{JoinPoint, TheVariants.{Start, Over}}, JoinState.JoinState}
use Rattle.shm_recover.specs.Join.Asks.{join_ask}
use Rattle.shm_recover.specs.Join.{IsMember, CanJoin, join_control, join_fresh, is_over, JoinFits, JoinGives}

-- a join that has just been made fits each memo of an identity that may join
pub join_begins : (me : Me) (r : Memo) → CanJoin me r → JoinFits (join_fresh me) r r []
join_begins me r can = record { can = can; start = λ e. (refl, refl) }

-- the address of the status is that of its spot
pub status_spot : (me : Me) (class : ℕ → ℕ → ℕ) → IsMember me → spot_at me.geometry class (address me.geometry (place.Status me.who)) ≡ Status me.who
status_spot me class k = spot-place me.geometry class (place.Status me.who) (let l = k.who in grind (arith, nat_tests))

-- an identity that is new or gone has nothing in progress, prepares nothing and holds no latch
empty_handed : (g : Geometry) (w : Spot → ℕ) (r : ℕ → Memo) (c : ℕ) → HeldAt g w (view r) → c < g.clients → ((r c).status ≡ status.New) ⊎ ((r c).status ≡ status.Gone)
    → ((r c).op ≡ Nothing) × ((r c).making ≡ None) × ((r c).latch ≡ None) × (own_word (r c).own (Hold c) ≡ 0)
empty_handed g w r c h l (inl e) = let q = h.fresh c l e in (q.idle, q.made, q.latched, q.words (Hold c) (eq-eqb c c refl) (λ z. cc))
empty_handed g w r c h l (inr e) = let q = h.gone c l e in (q.idle, none (r c).making (h.making c l), q.latched, q.hold)
  where
    none : (m : Option Making) → MakingTie g (λ s q. w (Page s q)) (λ s. w (Segment s)) (λ b. w (Head b)) (λ b. w (Tag b)) (λ b i. w (Body b i)) c m → m ≡ None
    none None x = refl
    none (Some k) x = let y = (h.segments c l).all (segment_of g k.block) x.mine in absurd (subst (λ (os : List ℕ). Contains os (segment_of g k.block) → ⊥) (sym (h.gone c l e).segments) (λ z. let u = z.1 in absurd (omega arith)) y)

-- what the store of the status leaves
joined : (m : JoinState) (r0 : Memo) (t : Step) → (r0.op ≡ Nothing) × (r0.making ≡ None) × (r0.latch ≡ None) × (own_word r0.own (Hold m.me.who) ≡ 0) → JoinGives m r0 (record (called r0 t) { status = status.Live }) (pair (join_ask m.me) 0 ∷ []) tt
joined m r0 t e =
    record {
      idle = record {
        live = refl;
        op = called_part (λ (x : Memo). x.op) r0 t refl refl ∙ e.0;
        making = called_part (λ (x : Memo). x.making) r0 t refl refl ∙ e.1;
        hold = called_part (λ (x : Memo). own_word x.own (Hold m.me.who)) r0 t refl refl ∙ (e.3 ∙ sym (ap hold_word (called_part (λ (x : Memo). x.latch) r0 t refl refl ∙ e.2)));
      };
      rest = ap (λ (x : Memo). core (record x { status = status.Live })) (called_core r0 t);
      trail = refl;
    }

start_of : (m : JoinState) → is_over m.point ≡ false → m.point ≡ Start
start_of m e = go m.point e
  where
    go : (p : JoinPoint) → is_over p ≡ false → p ≡ Start
    go Start e = refl
    go Over e = absurd (true≢false e)

join_keeps : EachStepKeeps join_control JoinFits JoinGives
join_keeps m r0 tr going w r f s fit =
    let same = fit.start (start_of m going) in
    let at = address m.me.geometry (place.Status m.me.who) in
    live_kept m.me w r f tr at (Then join_control JoinFits JoinGives m r0 tr) s (status_spot m.me (classes w) fit.can.member)
    (subst (λ (x : Memo). JoinGives m r0 (record (called x (framed m.me (Store at 1) f 0)) { status = status.Live }) (tr ++ pair (join_ask m.me) 0 ∷ []) tt) (sym same.0)
    (subst (λ (x : Trail). JoinGives m r0 (record (called r0 (framed m.me (Store at 1) f 0)) { status = status.Live }) (x ++ pair (join_ask m.me) 0 ∷ []) tt) (sym same.1)
    (joined m r0 (framed m.me (Store at 1) f 0) (subst (λ (x : Memo). (x.op ≡ Nothing) × (x.making ≡ None) × (x.latch ≡ None) × (own_word x.own (Hold m.me.who) ≡ 0)) same.0
    (empty_handed m.me.geometry w r m.me.who s.held s.who (subst (λ (x : Memo). (x.status ≡ status.New) ⊎ (x.status ≡ status.Gone)) (sym same.0) fit.can.status))))))

pub join_laws : Laws join_control JoinFits JoinGives
join_laws =
    record {
      steady = λ m n going. record { same_me = refl; same_line = refl; started = refl; ends = refl };
      inside = λ m r0 r tr l fit going. (in_pool m.me.geometry (λ s p. 0) (address m.me.geometry (place.Status m.me.who)) (Status m.me.who) (status_spot m.me (λ s p. 0) fit.can.member) (λ e. cc)).1;
      back = λ m n going goes r0 r tr a g. absurd (cc);
      keeps = join_keeps;
    }
