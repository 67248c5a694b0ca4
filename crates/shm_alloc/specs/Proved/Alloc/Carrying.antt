-- what a walk along the own partition found is carried over an allocation: the block that is to be an entry, or the directory
use Rattle.std.proofs.Common.{◌≡◌, ◌≢◌, ℕ, ◌+◌, ◌^◌, ◌<◌, refl, sym, ap, ◌∙◌, subst, arith, eqb, ◌&&◌, List, [], ◌∷◌, Ok, slice_index}
use Rattle.std.proofs.lemmas.{Bool.cond-true, List.Elements.{Contains-append_left, Contains-append_right}}
use Rattle.std.specs.List.{Contains}
use Rattle.shm_words.specs.{Tags.{tag_refs, tag_plain, TagFits}, declared.tag.Tag.Tag as ATag}
use Rattle.shm_words.proofs.Words.{place_some, tag_refs-word, tag_plain-word, tag_author-word}
use Rattle.shm_graph.specs.declared.{ask.Me.Me, spot.Spot.Spot, memo.{Making.Making, Memo.Memo, Stored.Stored}}
use Rattle.shm_graph.specs.{Held.is_loose, MemoAfterRead.valued, Views.own_word}
use Rattle.shm_graph.specs.declared.spot.Spot.TheVariants as spot
use Rattle.shm_graph.proofs.{StepKinds.Loads.choice, Spots.Spotting.same_spot_self}
use Rattle.kind_parts.specs.Reparting.{sight, map_in, IsKnown, IsTagged, IsBare, IsValue}
use Rattle.kind_parts.specs.Walking.{IsVacant, IsComing}
use Rattle.shm_count.specs.{declared.answer.Made.Made, Proved.Carrying.{Carries, vacant_carried}}
use Rattle.shm_alloc.specs.{declared.request.Request.Request, Alloc.Control.tag_asked}
use Rattle.shm_alloc.specs.{Alloc.{AnswerHolds, MadeGives, IsPrepared, goal_of}, Proved.Alloc.Steps.ready_word}

module _ (me : Me) (q : Request) (m r : Memo) (a : Made) (holds : AnswerHolds me q m r (Ok a)) (who : me.who < 64) where
  abbrev c : ℕ
  c = me.who

  abbrev gives : MadeGives me q m r a
  gives = holds.gives

  abbrev words : Making
  words = holds.gives.knows.0

  prepared : IsPrepared me.geometry.wide me.who q a.block q.refs q.count words
  prepared = gives.knows.2

  -- what was known is, and so are the words of the new block
  knows_old : (p : Spot) (x : ℕ) → IsKnown (sight me.who m) p x → IsKnown (sight me.who r) p x
  knows_old p x h = subst (λ ks. Contains ks (record { spot = p; value = x })) (sym gives.knows.1) (Contains-append_right words.words m.known (record { spot = p; value = x }) h)

  knows_new : (p : Spot) (x : ℕ) → Contains words.words (record { spot = p; value = x }) → IsKnown (sight me.who r) p x
  knows_new p x h = subst (λ ks. Contains ks (record { spot = p; value = x })) (sym gives.knows.1) (Contains-append_left words.words m.known (record { spot = p; value = x }) h)

  -- its tag is the one that was asked for
  made_tagged : (refs plain : ℕ) → q.refs ≡ refs → q.count ≡ plain → refs < 17 → plain < 9 → IsTagged me.geometry.wide me.who (sight me.who r) a.block refs plain
  made_tagged refs plain e f low few =
      let t : ATag = record { refs = q.refs; plain = q.count; author = me.who; link = 0 } in
      let fits : TagFits me.geometry.wide t = record { refs = omega arith; plain = omega arith; author = who; link = place_some me.geometry.wide } in
      record {
        tag = tag_asked me.geometry.wide q me.who;
        known = knows_new (spot.Tag a.block) (tag_asked me.geometry.wide q me.who) prepared.tag;
        refs_are = tag_refs-word me.geometry.wide t fits ∙ e;
        plain_are = tag_plain-word me.geometry.wide t fits ∙ f;
        author = tag_author-word me.geometry.wide t fits;
      }

  -- a root has it
  made_root : own_word r.own (spot.Root me.who a.root) ≡ a.block
  made_root = ap (λ (s : List Stored). own_word s (spot.Root me.who a.root)) gives.own ∙ cond-true _ _ _ (same_spot_self (spot.Root me.who a.root))

  -- a block that is to be the directory
  pub made_bare : q.refs ≡ 16 → q.count ≡ 0 → IsBare me.geometry.wide me.who (sight me.who r) a.block
  made_bare e f = record { tagged = made_tagged 16 0 e f (omega arith) (omega arith); words = λ i l. knows_new (spot.Body a.block i) 0 (prepared.zeros i (subst (λ n. i < n) (sym e) l)) }

  -- what a walk found stays so
  pub made_carries : (key : ℕ) → Carries me.who key m r
  made_carries key =
      record {
        latch = holds.stays.latch;
        looks = holds.stays.looks;
        loose = ap is_loose holds.stays.part;
        home = ap (λ (s : List Stored). own_word s (spot.Home me.who)) gives.own ∙ ready_word me (goal_of me m a) a.block m.own (spot.Home me.who) refl;
        map = ap (λ y. map_in y key) holds.stays.part;
        word = λ i x h. knows_old (spot.Body (own_word m.own (spot.Home me.who)) i) x h;
      }

  -- and the new block is to be the entry of the key
  pub made_comes : (key first : ℕ) → IsVacant me.who m key first → q.refs ≡ 2 → q.count ≡ 1 → slice_index q.plain 0 ≡ key → key < 2 ^ 32 → a.block ≢ 0 → IsVacant me.who r key first × IsComing me.geometry.wide me.who r a.root a.block key 0 0
  made_comes key first vacant e f k small some =
      let two : 2 ≡ q.refs = sym e in
      let none : 0 < q.count = omega arith in
      let word : IsKnown (sight me.who r) (spot.Body a.block (q.refs + 0)) (slice_index q.plain 0) = knows_new (spot.Body a.block (q.refs + 0)) (slice_index q.plain 0) (prepared.words 0 none) in
      let at : q.refs + 0 ≡ 2 = omega arith in (
        vacant_carried me.who key first m r (made_carries key) vacant,
        record {
          root = (gives.root, made_root, some);
          entry = record {
            tagged = made_tagged 2 1 e f (omega arith) (omega arith);
            word = subst (λ i. IsKnown (sight me.who r) (spot.Body a.block i) key) at (subst (λ x. IsKnown (sight me.who r) (spot.Body a.block (q.refs + 0)) x) k word);
            small = small;
            absent = ap (λ y. map_in y key) holds.stays.part ∙ vacant.absent;
          };
          next_is = knows_new (spot.Body a.block 0) 0 (prepared.zeros 0 (omega arith));
          value_is = knows_new (spot.Body a.block 1) 0 (prepared.zeros 1 (omega arith));
        },
      )

  -- a value block whose number is known stays one
  pub value_made : (v n : ℕ) → IsValue (sight me.who m) v n → IsValue (sight me.who r) v n
  value_made v n number =
      record {
        value = subst (λ vs. Contains vs v) (sym gives.values)
            (choice (λ vs. Contains vs v) (eqb (tag_refs me.geometry.wide (tag_asked me.geometry.wide q me.who)) 0 && eqb (tag_plain me.geometry.wide (tag_asked me.geometry.wide q me.who)) 1) (valued m.part a.block m.values) m.values
            (λ _. choice (λ vs. Contains vs v) (is_loose m.part) m.values (a.block ∷ m.values) (λ _. number.value) (λ _. Contains-append_right (a.block ∷ []) m.values v number.value)) (λ _. number.value));
        word = knows_old (spot.Body v 0) n number.word;
      }
