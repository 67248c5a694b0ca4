-- what a refused command that gives a block a root and then an entry leaves of the home, of the zero-count blocks and of the graph
use Rattle.std.proofs.Common.{◌≡◌, ◌≢◌, ℕ, sym, ap, subst, List, [], ◌∷◌, ◌++◌, ◌⊎◌, Option, Some, None, inl, inr}
use Rattle.shm_graph.specs.{declared.{ask.Me.Me, memo.Memo.Memo, spot.Spot.TheVariants.Home}, Events.Event}
use Rattle.shm_graph.specs.Views.{own_word}
use Rattle.shm_count.specs.{declared.answer.EraSpent.EraSpent, Roots.root_word, Tear.Events.Visit}
use Rattle.shm_ref.specs.Lefts.{RootEvents, Stopped}
use Rattle.shm_table.specs.{declared.answer.PutFault.PutFault, Answers.spent_fault, OpenTable.HomeSo}
use Rattle.shm_table.specs.PutRoot.{IsEraSpent, IsUnlisted}
use Rattle.shm_table.specs.{Proved.PutRoot.Undoing.{home_more, still_more, still_same, still_stopped}, Staying.Still}

-- nothing was done; or a block came into a root by such an event, it got no entry, and it lost that root. By these events the home that was `before` is `after`
abbrev pub IsTakenBack : ℕ → (ℕ → ℕ → Event) → ℕ → ℕ → List Event → Type 0
IsTakenBack c taken before after es =
    ((es ≡ []) × (after ≡ before)) ⊎ ((k : ℕ) × (b : ℕ) × (ps : List Event) × (gs : List Event) × (es ≡ taken k b ∷ (ps ++ gs)) × (b ≢ 0) × IsUnlisted c b before after ps × RootEvents c k b gs)

-- The home is as before, or it named none and names a directory that was made; the zero-count blocks are there still; and unless the own era was spent the block was taken back
pub record CommandUndone (me : Me) (taken : ℕ → ℕ → Event) (r0 r : Memo) (es : List Event) (f : PutFault) : Type 0 where
  pub home : HomeSo me.who (own_word r0.own (Home me.who)) (own_word r.own (Home me.who)) es
  pub still : Still r0 r
  pub events : IsTakenBack me.who taken (own_word r0.own (Home me.who)) (own_word r.own (Home me.who)) es ⊎ IsEraSpent f

-- ---- on the way

-- while root k names the block b, where it was refused
abbrev pub BlockUndone : ℕ → (ℕ → ℕ → Event) → ℕ → ℕ → Memo → Memo → List Event → Option PutFault → Type 0
BlockUndone c taken k b r0 r es None = Unit {0}
BlockUndone c taken k b r0 r es (Some f) =
    HomeSo c (own_word r0.own (Home c)) (own_word r.own (Home c)) es × Still r0 r × (((ps : List Event) × (es ≡ taken k b ∷ ps) × (b ≢ 0) × IsUnlisted c b (own_word r0.own (Home c)) (own_word r.own (Home c)) ps × (root_word c r k ≡ b)) ⊎ IsEraSpent f)

module _ (me : Me) (taken : ℕ → ℕ → Event) (k b : ℕ) (r0 rs r : Memo) (es ds : List Event) (f : PutFault) (same : own_word r.own (Home me.who) ≡ own_word rs.own (Home me.who)) (h : BlockUndone me.who taken k b r0 rs es (Some f)) where
  abbrev pub c : ℕ
  c = me.who

  pub home : HomeSo c (own_word r0.own (Home c)) (own_word r.own (Home c)) (es ++ ds)
  home = subst (λ x. HomeSo c (own_word r0.own (Home c)) x (es ++ ds)) (sym same) (home_more c (own_word r0.own (Home c)) (own_word rs.own (Home c)) es ds h.0)

  -- the root was dropped
  pub dropped_undone : r.dying ≡ rs.dying → RootEvents c k (root_word c rs k) ds → CommandUndone me taken r0 r (es ++ ds) f
  dropped_undone dying drop =
      record {
        home = home;
        still = still_more r0 rs r h.1 (still_same rs r dying);
        events = elim h.2 [
          | inl (ps, told, some, unlisted, root) ↦ inl (inr (
            k,
            b,
            ps,
            ds,
            ap (λ (u : List Event). u ++ ds) told,
            some,
            subst (λ x. IsUnlisted c b (own_word r0.own (Home c)) x ps) (sym same) unlisted,
            subst (λ x. RootEvents c k x ds) root drop,
          ))
          | inr z ↦ inr z
        ];
      }

  -- or stays, or is a zero-count block
  pub stopped_undone : (e : EraSpent) (vs : List Visit) → Stopped me rs r e.era vs → CommandUndone me taken r0 r (es ++ ds) (spent_fault e)
  stopped_undone e vs stopped = record { home = home; still = still_more r0 rs r h.1 (still_stopped me rs r e.era vs stopped); events = inr tt }
