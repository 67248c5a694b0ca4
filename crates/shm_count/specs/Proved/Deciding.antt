-- the steps at an entry that a walk found may begin: its value word has another value block, or the word that leads to it the next entry or none
use Rattle.std.proofs.Common.{◌≡◌, ◌≢◌, ℕ, ◌<◌, ap, subst, arith, true, false, List, ◌∷◌}
use Rattle.shm_graph.specs.{declared.{ask.Me.Me, spot.Spot.Spot, memo.Memo.Memo, table.Entry.Entry}, Agents.recovers}
use Rattle.shm_graph.specs.{Held.HeldAt, Ops.cover_of, Reach.is_reached, Spots.spot_address, Views.view}
use Rattle.shm_graph.specs.declared.spot.Spot.TheVariants as spot
use Rattle.shm_graph.specs.declared.memo.Op.TheVariants as op
use Rattle.kind_parts.specs.{Conditions.IsHere, Reparting.{sight, IsKnown, IsValue, TableStep}}
use Rattle.kind_parts.specs.Walking.{IsSeeking, is_looked}
use Rattle.kind_parts.proofs.{Reaching.look_reached, Partitions.{Seeking.seek_own, Words.entry_word}}
use Rattle.kind_parts.proofs.Partitions.Walked.{walk_has, walk_unlinks, walk_replaces, next_other, entry_some, value_some}
use Rattle.shm_count.specs.{declared.point.Aim.TheVariants.{Down, Change}, Step.CanStep}
use Rattle.shm_count.specs.Proved.TableSteps.{can_clear, can_replace}

module _ (me : Me) (w : Spot → ℕ) (r : ℕ → Memo) (held : HeldAt me.geometry w (view r)) (who : me.who < me.geometry.clients) (here : IsHere (r me.who)) (idle : (r me.who).op ≡ op.Nothing) (client : recovers (r me.who) ≡ false)
    (key first : ℕ) (p : Spot) (at : ℕ) (xs : List Entry) (e : Entry) (ys : List Entry) (seeks : IsSeeking me.who (r me.who) key first p at xs (e ∷ ys)) (found : e.key ≡ key) where
  some : at ≢ 0
  some = entry_some me.geometry w r me.who held who (ap cover_of idle) seeks.table key p at xs e ys seeks.walk

  -- ---- the entry goes

  module _ (d i next : ℕ) (word : p ≡ spot.Body d i) (known : IsKnown (sight me.who (r me.who)) (spot.Body at 0) next) where
    unlinks : TableStep me.geometry.wide me.who (sight me.who (r me.who)) (spot.Body d i) at next
    unlinks = subst (λ q. TableStep me.geometry.wide me.who (sight me.who (r me.who)) q at next) word (walk_unlinks me.geometry.wide me.who (sight me.who (r me.who)) key p at next xs e ys seeks.walk found known)

    -- it is the last one
    pub last_goes : next ≡ 0 → CanStep me (spot_address me.geometry (spot.Body d i)) (Down at) (spot.Body d i) (r me.who)
    last_goes none =
        can_clear me w r held who here idle d i at some (seek_own me.geometry.wide me.who (r me.who) key first p at d i xs (e ∷ ys) idle seeks word)
        (subst (TableStep me.geometry.wide me.who (sight me.who (r me.who)) (spot.Body d i) at) none unlinks)

    -- or there is a next one, which was read
    pub entry_goes : next ≢ 0 → is_looked (r me.who) next ≡ true → CanStep me (spot_address me.geometry (spot.Body d i)) (Change at next) (spot.Body d i) (r me.who)
    entry_goes more looked =
        can_replace me w r held who here idle d i at next client some
        (next_other me.geometry w r me.who held who (ap cover_of idle) seeks.table key p at next xs e ys seeks.walk known more)
        (seek_own me.geometry.wide me.who (r me.who) key first p at d i xs (e ∷ ys) idle seeks word)
        (look_reached me.who (r me.who) next looked) unlinks

  -- ---- it has another value

  pub value_changes : (old v n : ℕ) → IsKnown (sight me.who (r me.who)) (spot.Body at 1) old → old ≢ v → IsValue (sight me.who (r me.who)) v n → is_reached me.who (r me.who) v ≡ true
      → CanStep me (spot_address me.geometry (spot.Body at 1)) (Change old v) (spot.Body at 1) (r me.who)
  value_changes old v n known other number reach =
      let has = (walk_has (sight me.who (r me.who)) key p at xs e ys seeks.walk found).0 in
      let in_role = seeks.here some in
      can_replace me w r held who here idle at 1 old v client
      (value_some me.geometry w r me.who held who (ap cover_of idle) seeks.table key old xs e ys has (subst (λ d. IsKnown (sight me.who (r me.who)) (spot.Body d 1) old) seeks.walk.starts known))
      other
      (entry_word me.geometry.wide me.who (r me.who) at 1 old seeks.latch in_role.0 (look_reached me.who (r me.who) at in_role.1) (omega arith) known)
      reach
      (walk_replaces me.geometry.wide me.who (sight me.who (r me.who)) key p at old v n xs e ys seeks.walk found number)
