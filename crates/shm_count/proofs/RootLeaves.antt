-- what a step down at an own root leaves: the root is empty, its block joins the zero-count blocks or stays counted, and the rest stays
use Rattle.std.proofs.Common.{◌≡◌, ℕ, ◌-◌, ◌^◌, ◌<◌, refl, sym, ap, ◌∙◌, subst, Bool, cond, eqb, List, [], ◌∷◌, ◌++◌, true, ◌+◌, ◌≢◌}
use Rattle.std.proofs.lemmas.Bool.{cond-false, cond-true, eq-eqb}
use Rattle.std.specs.List.{Contains, filter}
use Rattle.shm_words.specs.Headers.{header_of}
use Rattle.shm_graph.specs.declared.{ask.Me.Me, spot.Spot.{Spot, TheVariants.{Home, Era, Root}}}
use Rattle.shm_graph.specs.declared.memo.{First.TheVariants.Committed, Memo.Memo}
use Rattle.shm_graph.specs.declared.memo.{Op.TheVariants.{Down as StepDown, Nothing}, Stored.Stored}
use Rattle.shm_graph.specs.{declared.table.Part.{Part as TablePart, TheVariants.{Loose, Table}}, Chains.part_set}
use Rattle.shm_graph.specs.{MemoAfterExchange.{cut, reparted, without_made}, Reach.{shown, sifted, is_named}}
use Rattle.shm_graph.specs.{Views.own_word, Core.core}
use Rattle.shm_graph.specs.MemoAfterStore.{is_of, not_of, with_own, written, stored_on, era_stored}
use Rattle.shm_graph.proofs.{Spots.Spotting.same_spot_self, StepKinds.Loads.choice}
use Rattle.kind_laws.specs.HeaderExchanges.{dying_after}
use Rattle.kind_parts.proofs.MemoCommits.{known_lowered, lowered_is}
use Rattle.shm_count.specs.declared.point.{Aim.TheVariants.Down, Half.TheVariants.First}
use Rattle.shm_count.specs.Proved.{DownLeaves.{count_less, one_less, joined, kept_lowered}, Step.Parts.lasting_not}
use Rattle.shm_count.specs.Proved.Step.Memos.{closed_part}
use Rattle.shm_count.specs.Proved.Retaining.{slots_forgotten, slots_sifted, named_same, named_sifted, value_sifted}
use Rattle.shm_count.specs.Step.{Control.header_after, begun, set_memo, slot_memo, closed_memo, Done}
use Rattle.shm_count.specs.{Roots.{rest, RootLowered}, Tear.Memos.is_slot_word}
use Rattle.shm_count.proofs.RootMemos.{op_done, word_done}

-- no partition is read from a root
root_part : (ks : List Stored) (c home k x : ℕ) (part : TablePart) → part_set ks c home (Root c k) x part ≡ part
root_part ks c home k x Loose = refl
root_part ks c home k x (Table chains) = refl

module _ (me : Me) (slot k t e w : ℕ) (q : Memo) where
  abbrev c : ℕ
  c = me.who

  abbrev p : Spot
  p = Root c k

  abbrev n : ℕ
  n = (header_of (header_after me (Down t) e First w)).count

  -- the memo once the step is committed, but for what binds no more
  abbrev lowers : Memo
  lowers =
      let m : Memo = cut c p (reparted c (record q { op = StepDown Committed p t e; made = without_made q t }) p 0) in
      record m { dying = dying_after n t m.dying; known = known_lowered n t m.known }

  -- the exchange makes it
  set_is : ◌≡◌ {A = Memo} (set_memo me (Down t) p e First q w) (sifted c lowers)
  set_is = ap (sifted c) {y = lowers} (lowered_is n t (cut c p (reparted c (record q { op = StepDown Committed p t e; made = without_made q t }) p 0)))

  abbrev slotted : Memo
  slotted = slot_memo me (Down t) p e q w

  left_rest : rest (closed_memo me e slotted) ≡ rest q
  left_rest =
      closed_part rest me e slotted refl
      ∙ (ap rest set_is
      ∙ ap (λ (y : TablePart). rest (record q { part = y })) (root_part q.known c (shown (record q { op = StepDown Committed p t e; made = without_made q t }) (Home c)) k 0 q.part))

  left_dying : (closed_memo me e slotted).dying ≡ dying_after n t q.dying
  left_dying = closed_part (λ (y : Memo). y.dying) me e slotted (refl {a = slotted.dying}) ∙ ap (λ (y : Memo). y.dying) set_is

  -- the memo once the own era is stored, but for what binds no more
  abbrev closes : Memo
  closes = record (with_own (written (with_own (sifted c lowers) p 0)) (Era c c) (e + 1)) { op = Nothing; looks = [] }

  closed_is : ◌≡◌ {A = Memo} (closed_memo me e slotted) (sifted c closes)
  closed_is =
      let x : Memo = written (with_own (sifted c lowers) p 0) in
      ◌∙◌ (ap (λ (y : Memo). closed_memo me e (stored_on me.geometry c y p 0)) {y = sifted c lowers} set_is)
      (cond-true (eqb c c) (era_stored c x (Era c c) (e + 1)) (with_own x (Era c c) (e + 1)) (eq-eqb c c refl))

  -- what is known of head slots stays
  lowers_slots : filter is_slot_word lowers.known ≡ filter is_slot_word q.known
  lowers_slots = choice (λ (ks : List Stored). filter is_slot_word ks ≡ filter is_slot_word q.known) (eqb n 0) (filter (not_of t) q.known) q.known (λ z. slots_forgotten t q.known) (λ z. refl)

  closed_slots : filter is_slot_word (sifted c closes).known ≡ filter is_slot_word q.known
  closed_slots = slots_sifted c closes ∙ (slots_sifted c lowers ∙ lowers_slots)

  -- the same blocks are named once the step is committed, and once it is closed
  named_closes : (b : ℕ) → is_named c (sifted c closes) b ≡ is_named c closes b
  named_closes b = named_same c closes (sifted c closes) b (λ j. refl) refl (slots_sifted c closes)

  named_lowers : (b : ℕ) → is_named c lowers b ≡ is_named c closes b
  named_lowers b = named_same c closes lowers b (λ j. refl) refl (sym (slots_sifted c lowers))

  -- so that what is known of a block that is named stays known
  closed_words : (b : ℕ) (s : Spot) (x : ℕ) → is_named c (sifted c closes) b ≡ true → (eqb n 0 ≡ true → b ≢ t) → is_of b s ≡ true → Contains q.known (record { spot = s; value = x }) → Contains (sifted c closes).known (record { spot = s; value = x })
  closed_words b s x named other o has =
      let e1 : is_named c closes b ≡ true = sym (named_closes b) ∙ named in
      named_sifted c closes b s x e1 o (named_sifted c lowers b s x (named_lowers b ∙ e1) o (kept_lowered n t b s x q.known other o has))

  closed_values : (b : ℕ) → is_named c (sifted c closes) b ≡ true → Contains q.values b → Contains (sifted c closes).values b
  closed_values b named has =
      let e1 : is_named c closes b ≡ true = sym (named_closes b) ∙ named in
      value_sifted c closes b e1 (value_sifted c lowers b (named_lowers b ∙ e1) has)

-- what is left of a step down that is done, at root k of an identity whose own era a header has room for
pub root_leaves : (me : Me) (slot k t : ℕ) (m r : Memo) (z : Bool) → me.who < 64 → own_word m.own (Era me.who me.who) < 2 ^ 47 → Done me slot (Down t) (Root me.who k) m r z → RootLowered me.who k t z m r
root_leaves me slot k t m r z who era (e, q, w, at, some, same, zero) =
    let done : Done me slot (Down t) (Root me.who k) m r z = (e, q, w, at, some, same, zero) in
    let c = me.who in
    let less : (header_of (header_after me (Down t) e First w)).count ≡ (header_of w).count - 1 = count_less me t e w who (subst (λ y. y < 2 ^ 47) (sym at.0) era) some in
    let b : core q ≡ core (record (begun me slot (Down t) (Root c k) e m) { own = q.own }) = at.1.rest in
    let f : Memo = sifted c (closes me slot k t e w q) in
    let left : core r ≡ core f = same ∙ ap core {y = f} (closed_is me slot k t e w q) in
    let fell : eqb (header_of (header_after me (Down t) e First w)).count 0 ≡ z = ap (λ k. eqb k 0) less ∙ (one_less (header_of w).count some ∙ sym zero) in
    let known : q.known ≡ m.known = ap (λ (y : Memo). y.known) b in
    let named : (d : ℕ) → is_named c f d ≡ is_named c r d = λ d.
    named_same c r f d (λ j. sym (ap (λ (x : Memo). shown x (Root c j)) left)) (sym (ap (λ (x : Memo). shown x (Home c)) left)) (sym (ap (λ (x : Memo). filter is_slot_word x.known) left)) in
    record {
      rest = ap rest same ∙ (left_rest me slot k t e w q ∙ ap rest b);
      op = op_done me slot k m (Down t) r z done;
      own = λ p l other. let y = lasting_not c p l in word_done me slot k m p y.0 y.2 y.1 (Down t) r z done ∙ cond-false _ _ _ other;
      root = word_done me slot k m (Root c k) refl refl refl (Down t) r z done ∙ cond-true _ _ _ (same_spot_self (Root c k));
      dying =
          ap (λ (y : Memo). y.dying) same
          ∙ (left_dying me slot k t e w q
          ∙ (ap (λ (y : Memo). dying_after (header_of (header_after me (Down t) e First w)).count t y.dying) b
          ∙ (ap (λ y. cond y (m.dying ++ t ∷ []) m.dying) (ap (λ k. eqb k 0) less ∙ (one_less (header_of w).count some ∙ sym zero))
          ∙ joined z t m.dying)));
      looks = ap (λ (y : Memo). y.looks) left;
      slots = ap (λ (y : Memo). filter is_slot_word y.known) left ∙ (closed_slots me slot k t e w q ∙ ap (filter is_slot_word) known);
      words = λ d p x l other o has. subst (λ (s : List Stored). Contains s (record { spot = p; value = x })) (sym (ap (λ (y : Memo). y.known) left))
          (closed_words me slot k t e w q d p x (named d ∙ l) (λ u. other (sym fell ∙ u)) o (subst (λ (s : List Stored). Contains s (record { spot = p; value = x })) (sym known) has));
      values = λ d l has. subst (λ (s : List ℕ). Contains s d) (sym (ap (λ (y : Memo). y.values) left))
          (closed_values me slot k t e w q d (named d ∙ l) (subst (λ (s : List ℕ). Contains s d) (sym (ap (λ (y : Memo). y.values) b)) has));
    }
