-- what a refused command that gives a block a root and then an entry leaves of the home, of the zero-count blocks and of the graph: what is proved of it
use Rattle.std.proofs.Common.{◌≡◌, ◌≢◌, ℕ, ap, subst, List, [], ◌∷◌, ◌++◌, Some, inl, inr}
use Rattle.shm_graph.specs.{declared.{ask.Me.Me, memo.Memo.Memo, spot.Spot.TheVariants.Home}, Asks.Trail, Events.Event}
use Rattle.shm_graph.specs.Views.{own_word}
use Rattle.shm_count.specs.Roots.{root_word}
use Rattle.shm_table.specs.{declared.answer.PutFault.PutFault, OpenTable.HomeSo, PutRoot.{IsUnlisted, PutRootRefused}}
use Rattle.shm_table.specs.Proved.{PutRoot.Undoing.{home_later, still_more, still_same}, Staying.Laws.root_kept}
use Rattle.shm_table.specs.Undoing.{CommandUndone, BlockUndone, home}

-- ---- on the way

-- no block came into a root
pub none_undone : (me : Me) (taken : ℕ → ℕ → Event) (r0 r : Memo) (es : List Event) (f : PutFault) → own_word r.own (Home me.who) ≡ own_word r0.own (Home me.who) → r.dying ≡ r0.dying → es ≡ [] → CommandUndone me taken r0 r es f
none_undone me taken r0 r es f home dying none = record { home = inl home; still = still_same r0 r dying; events = inl (inl (none, home)) }

-- it came into root k, and then it was refused an entry
pub put_undone : (me : Me) (taken : ℕ → ℕ → Event) (key k b : ℕ) (r0 rs r : Memo) (t : Trail) (es ds : List Event) (f : PutFault) → es ≡ taken k b ∷ [] → own_word rs.own (Home me.who) ≡ own_word r0.own (Home me.who) → rs.dying ≡ r0.dying → b ≢ 0 → root_word me.who rs k ≡ b → PutRootRefused me key b rs r t ds f
    → BlockUndone me.who taken k b r0 r (es ++ ds) (Some f)
put_undone me taken key k b r0 rs r t es ds f told home dying some root w =
    let c = me.who in
    let after = own_word r.own (Home c) in (
      home_later c (own_word r0.own (Home c)) after es ds (subst (λ x. HomeSo c x after ds) home w.home),
      still_more r0 rs r (still_same r0 rs dying) w.still,
      elim w.events [ inl y ↦ inl (ds, ap (λ (u : List Event). u ++ ds) told, some, subst (λ x. IsUnlisted c b x after ds) home y, root_kept c rs r k b w.keeps some root) | inr z ↦ inr z ],
    )
