-- word steps at queues with what the invariant says of the word, and what a held state shows of tails, heads and blocks in reach
use Rattle.std.proofs.Common.{◌≡◌, ◌≢◌, ℕ, ◌+◌, ◌<◌, ◌≤◌, refl, sym, ap, ◌∙◌, subst, arith, Bool, []}
use Rattle.std.proofs.lemmas.{Bool.{and_from, eq-eqb, lt-ltb}, List.Elements.All-contains}
use Rattle.std.specs.List.{Contains}
use Rattle.shm_words.specs.Layout.{address}
use Rattle.shm_words.specs.declared.place.Place.TheVariants as place
use Rattle.shm_graph.specs.declared.{ask.{Ask.TheVariants.Load, Me.Me}, spot.Spot.TheVariants.{QueueHead, Tail}}
use Rattle.shm_graph.specs.{declared.memo.{Fact.TheVariants.Counter, Memo.Memo}, Laws.framed, Views.{own_word, view}}
use Rattle.shm_graph.proofs.{Memos.Calls.FactHolds, Spots.SpotPlaces.spot-place}
use Rattle.plans.specs.{Words.IsWord, Proved.WordSteps.load_at}
use Rattle.kind_parts.specs.WordParts.{Leaves, same_memo}
use Rattle.kind_parts.proofs.Words.Own.{at_step, word_for}

-- ---- loads of heads and tails

-- the head of a queue to another is loaded: it is at most 8 below the own tail, and joins what was read
abbrev pub HeadSeen : ℕ → ℕ → Memo → ℕ → Memo → Type 0
HeadSeen c i = Leaves (λ m n. (n ≤ own_word m.own (Tail c i)) × (own_word m.own (Tail c i) ≤ n + 8)) same_memo (λ m n x. Contains x.facts (Counter (QueueHead c i) n))

-- the tail of a queue from another is loaded: it isn't below the own head nor below a tail that was read, and joins what was read
abbrev pub TailSeen : ℕ → ℕ → Memo → ℕ → Memo → Type 0
TailSeen c s = Leaves (λ m n. (own_word m.own (QueueHead s c) ≤ n) × ((y : ℕ) → Contains m.facts (Counter (Tail s c) y) → y ≤ n)) same_memo (λ m n x. Contains x.facts (Counter (Tail s c) n))

module _ (first : Bool) (me : Me) (m : Memo) (l : me.who < me.geometry.clients) where
  abbrev pub c : ℕ
  c = me.who

  pub head_seen : (i : ℕ) → i < me.geometry.clients → c ≢ i → IsWord first me (Load (address me.geometry (place.Head c i))) (HeadSeen c i) (word_for me (Load (address me.geometry (place.Head c i)))) m
  head_seen i li other =
      let at : ℕ = address me.geometry (place.Head c i) in
      load_at first me at (HeadSeen c i) m (QueueHead c i) (λ class. spot-place me.geometry class (place.Head c i) (and_from _ _ (lt-ltb c me.geometry.clients l) (lt-ltb i me.geometry.clients li))) (λ e. cc) refl tt
      (λ w r f st stands same.
      let lane = st.held.lanes c i l li other in
      let own : own_word m.own (Tail c i) ≡ w (Tail c i) = ap (λ (y : Memo). own_word y.own (Tail c i)) (sym same) ∙ st.held.mine c l (Tail c i) (eq-eqb c c refl) in
      record {
        found = ((let o = lane.order in omega arith), (let o = lane.room in omega arith));
        left = at_step r c m (framed me (Load at) f (w (QueueHead c i))) same;
        read = (0, omega arith, refl);
      })

  pub tail_seen : (s : ℕ) → s < me.geometry.clients → s ≢ c → IsWord first me (Load (address me.geometry (place.Tail s c))) (TailSeen c s) (word_for me (Load (address me.geometry (place.Tail s c)))) m
  tail_seen s ls other =
      let at : ℕ = address me.geometry (place.Tail s c) in
      load_at first me at (TailSeen c s) m (Tail s c) (λ class. spot-place me.geometry class (place.Tail s c) (and_from _ _ (lt-ltb s me.geometry.clients ls) (lt-ltb c me.geometry.clients l))) (λ e. cc) refl tt
      (λ w r f st stands same.
      let lane = st.held.lanes s c ls l other in
      let own : own_word m.own (QueueHead s c) ≡ w (QueueHead s c) = ap (λ (y : Memo). own_word y.own (QueueHead s c)) (sym same) ∙ st.held.mine c l (QueueHead s c) (eq-eqb c c refl) in
      record {
        found = ((let o = lane.order in omega arith), λ y has. All-contains (FactHolds me.geometry w (view r)) (r c).facts (Counter (Tail s c) y) (st.held.facts c l) (subst (λ (x : Memo). Contains x.facts (Counter (Tail s c) y)) (sym same) has));
        left = at_step r c m (framed me (Load at) f (w (Tail s c))) same;
        read = (0, omega arith, refl);
      })
