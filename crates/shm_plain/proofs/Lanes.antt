-- the queues of a pool: what waits in them, and which item is the first one
use Rattle.std.proofs.Common.{◌≡◌, ◌≢◌, ℕ, zero, suc, ◌+◌, ◌<◌, ◌≤◌, refl, sym, ap, ◌∙◌, subst, arith, List, [], ◌∷◌, ◌++◌, append_assoc, length, drop, drop-cons, take-append-drop, length-drop}
use Rattle.std.proofs.lemmas.{Bool.eq-eqb, List.{append_cancel_left, Elements.All-contains}}
use Rattle.std.specs.{List.Contains, Prelude.{slice_index, slice_index_or}}
use Rattle.shm_graph.specs.declared.{memo.{Memo.Memo, Stored.Stored}, spot.Spot.TheVariants.{QueueHead, Tail, Slot}}
use Rattle.shm_graph.specs.{Held.HeldAt, Runs.memos_of, Spots.see, MemoAfterStore.{lane_with, put}}
use Rattle.shm_graph.specs.Views.{own_word, targets, view}
use Rattle.shm_graph.proofs.{Memos.KnownChange.KnownHolds, States.Reached.known_target}
use Rattle.shm_plain.specs.{Lanes.{IsFirst, Wait, received_of, sent_of}, Pools.{Pool, IsRun, memo_of}}

module _ (p : Pool) (s c : ℕ) (run : IsRun p) (ls : s < p.start.geometry.clients) (lc : c < p.start.geometry.clients) (other : s ≢ c) where
  held : HeldAt p.start.geometry (see p.start.geometry p.words) (view (memos_of p.accounts))
  held = run.held.at

  pub head_counts : own_word (memo_of p c).own (QueueHead s c) ≡ length (received_of p s c)
  head_counts = held.mine c lc (QueueHead s c) (eq-eqb c c refl) ∙ (held.lanes s c ls lc other).all_received

  pub tail_counts : own_word (memo_of p s).own (Tail s c) ≡ length (sent_of p s c)
  tail_counts = held.mine s ls (Tail s c) (eq-eqb s s refl) ∙ (held.lanes s c ls lc other).all_sent

  pub items_wait : (items : List ℕ) × Wait p s c items × (length items ≤ 8)
  items_wait =
      let w = see p.start.geometry p.words in
      let n : ℕ = w (QueueHead s c) in
      let lane = held.lanes s c ls lc other in
      let all : length (sent_of p s c) ≡ w (Tail s c) = sym lane.all_sent in
      let room : w (Tail s c) ≤ n + 8 = lane.room in
      (drop n (sent_of p s c), sym (take-append-drop n (sent_of p s c)) ∙ ap (λ xs. xs ++ drop n (sent_of p s c)) (sym lane.prefix), omega (arith, length-drop n (sent_of p s c)))

  -- what is known of a head slot is the first item that waits
  pub known_first : (k b : ℕ) → Contains (memo_of p c).known (record { spot = Slot s c k; value = b }) → IsFirst p s c b
  known_first k b known =
      let g = p.start.geometry in
      let w = see g p.words in
      let v = view (memos_of p.accounts) in
      let n : ℕ = w (QueueHead s c) in
      let lane = held.lanes s c ls lc other in
      let a : KnownHolds g w v c (record { spot = Slot s c k; value = b }) = All-contains (λ (x : Stored). KnownHolds g w v c x) (memo_of p c).known (record { spot = Slot s c k; value = b }) (held.known c lc) known in
      let item : slice_index (sent_of p s c) n ≡ b = sym (lane.items n (omega arith) a.3 (a.4, refl)) ∙ subst (λ j. targets g w v (Slot s c j) ≡ b) a.2 (known_target g w v held c lc s c k b a) in
      let some : n < length (sent_of p s c) = (let all = lane.all_sent in let less = a.3 in omega arith) in
      let queue_head = sym (take-append-drop n (sent_of p s c)) ∙ ap (λ xs. xs ++ drop n (sent_of p s c)) (sym lane.prefix) in
      (drop (suc n) (sent_of p s c), queue_head ∙ ap (λ xs. received_of p s c ++ xs) (drop-cons (sent_of p s c) n 0 some ∙ ap (λ x. x ∷ drop (suc n) (sent_of p s c)) item))

-- item i of a list is the one that was put there
put_self : {T : Type 0} (d : T) (xs : List T) (i : ℕ) (x : T) → slice_index_or (put d xs i x) i d ≡ x
put_self d [] zero x = refl
put_self d [] (suc i) x = put_self d [] i x
put_self d (y ∷ ys) zero x = refl
put_self d (y ∷ ys) (suc i) x = put_self d ys i x

-- a pool that c has come to, with nothing done by s: the item at the end of what c received was the first one
pub taken_first : (p q : Pool) (s c b : ℕ) → IsRun q → s < q.start.geometry.clients → c < q.start.geometry.clients → s ≢ c → memo_of q s ≡ memo_of p s → (memo_of q c).received ≡ lane_with (memo_of p c).received s b → IsFirst p s c b
taken_first p q s c b run ls lc other same taken =
    let x = items_wait q s c run ls lc other in
    let received : received_of q s c ≡ received_of p s c ++ b ∷ [] = ap (λ rs. slice_index_or rs s []) taken ∙ put_self [] (memo_of p c).received s (received_of p s c ++ b ∷ []) in
    (x.0, ap (λ (m : Memo). slice_index_or m.sent c []) (sym same) ∙ (x.1 ∙ (ap (λ xs. xs ++ x.0) received ∙ append_assoc (received_of p s c) (b ∷ []) x.0)))

-- no two items are the first one
pub one_first : (p : Pool) (s c b d : ℕ) → IsFirst p s c b → IsFirst p s c d → b ≡ d
one_first p s c b d x y = ap head_of (append_cancel_left (received_of p s c) (b ∷ x.0) (d ∷ y.0) (sym x.1 ∙ y.1))
  where
    head_of : List ℕ → ℕ
    head_of [] = 0
    head_of (z ∷ zs) = z
