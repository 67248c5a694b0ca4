-- what one word step makes of the words
use Rattle.std.proofs.Common.{◌≡◌, ◌≢◌, ℕ, ◌<◌, ◌≤◌, refl, sym, ap, ◌∙◌, subst, arith, inl, inr, Bool, true, false, eqb, cond}
use Rattle.std.proofs.lemmas.Bool.{cases_eq, cases_lt, cases_Bool, cond-false, false≢true, false_from_ne_true, le-ltb}
use Rattle.std.specs.Prelude.{Option, Some, None}
use Rattle.shm_words.specs.{declared.{geometry.Geometry.Geometry, redo.Redo.Redo as ARedo}, Redos.kind_of}
use Rattle.shm_words.specs.Tags.{tag_refs}
use Rattle.shm_words.specs.declared.redo.Redo.TheVariants as redos
use Rattle.shm_words.proofs.Words.{change_told, live_not_zero}
use Rattle.shm_graph.specs.declared.{ask.Ask.{Ask, TheVariants.{Store, Exchange}}, memo.First.TheVariants.Begun}
use Rattle.shm_graph.specs.declared.memo.{Second.TheVariants.Open, ChangeStage.TheVariants.{Raising, Lowering}}
use Rattle.shm_graph.specs.declared.{memo.{Memo.Memo, Op.Op, Step.Step}, run.Move.TheVariants.Word, spot.Spot.Spot}
use Rattle.shm_graph.specs.declared.spot.Spot.TheVariants.{Spare, Redo, Root, Head, Tag, Body}
use Rattle.shm_graph.specs.{Asks.{at_of, words_set}, Blocks.{IsLive, classes, headers}}
use Rattle.shm_graph.specs.Events.{Event, Nothing, Alloc, Up, Down, ChangeUp, ChangeDown, Free, Graph, Happens, graph_of}
use Rattle.shm_graph.specs.{Held.HeldAt, Histories.event_at, Laws.{event_of, event_by}}
use Rattle.shm_graph.specs.Runs.{Held, State, Turned, memos_of, moved}
use Rattle.shm_graph.specs.Spots.{classes_in, same_spot, see, spot_at, upd}
use Rattle.shm_graph.specs.Views.{View, at1, targets, held_overs, view}
use Rattle.shm_graph.specs.declared.memo.Op.TheVariants as op
use Rattle.shm_graph.proofs.{Runs.Lists.{at1_here, at1_other}, Spots.{Fixed.fixed_in, Spotting.same_spot_is}}
use Rattle.shm_graph.proofs.States.{HeldSound.held_state_sound, Holders.held_live_not_zero, SoundStates.sound_free}
use Rattle.shm_headline.specs.{Now.{names, owed, owed_by, record_of}, WordRuns.IsStep}
use Rattle.shm_headline.proofs.Named.{names_told, owed_told}

-- ---- events are of the stepping identity

abbrev IsBy : ℕ → Event → Type 0
IsBy c (ChangeUp d p a b) = d ≡ c
IsBy c (ChangeDown d a) = d ≡ c
IsBy c (Free d b) = d ≡ c
IsBy c _ = Unit {0}

op_by : (c : ℕ) (o : Op) → IsBy c (event_of c o)
op_by c (op.Alloc Begun (Root d k) b e) = tt
op_by c (op.Up Begun p b e) = tt
op_by c (op.Down Begun p b e) = tt
op_by c (op.Change (Raising Begun) p a b e) = refl
op_by c (op.Change (Lowering Open) p a b e) = refl
op_by c _ = tt

by_test : (who : ℕ) (b : Bool) (e : Event) → IsBy who e → IsBy who (cond b e Nothing)
by_test who true e h = h
by_test who false e h = tt

made_by : (m : Memo) (t : Step) (a : Ask) (p : Spot) → IsBy t.me.who (event_by m t a p)
made_by m t (Exchange at from to) (Head b) = by_test t.me.who (eqb t.seen from) (event_of t.me.who m.op) (op_by t.me.who m.op)
made_by m t (Store at v) (Head b) = by_test t.me.who (eqb v 0) (Free t.me.who b) refl
made_by m t _ p = tt

-- ---- what an event changes

module _ (g : Geometry) (w : Spot → ℕ) (a b : Graph) where
  kept : (p : Spot) (x : ℕ) → ((q : Spot) → b.target q ≡ upd a.target p x q) → (r : Spot) × ((q : Spot) → b.target q ≢ a.target q → q ≡ r)
  kept p x e = (
    p,
    λ q n. elim (cases_Bool (same_spot p q)) [
      | inl s ↦ sym (same_spot_is p q s)
      | inr m ↦ absurd (n (e q ∙ cond-false _ _ _ m))
    ],
  )

  none : ((q : Spot) → b.target q ≡ a.target q) → (r : Spot) × ((q : Spot) → b.target q ≢ a.target q → q ≡ r)
  none e = (Spare, λ q n. absurd (n (e q)))

  pub one_target : (e : Event) → Happens g w e a b → (r : Spot) × ((q : Spot) → b.target q ≢ a.target q → q ≡ r)
  one_target Nothing h = none h.targets
  one_target (Alloc c k x) h = kept (Root c k) x h.3.2.targets
  one_target (Up c p x) h = kept p x h.2.targets
  one_target (Down c p x) h = kept p 0 h.2.targets
  one_target (ChangeUp c p x y) h = kept p y h.4.targets
  one_target (ChangeDown c x) h = none h.2.targets
  one_target (Free c x) h = none h.4.targets

  pub owes_other : (e : Event) (who : ℕ) → IsBy who e → Happens g w e a b → (d : ℕ) → d ≢ who → b.held_over d ≡ a.held_over d
  owes_other Nothing who by h d n = h.held_overs d
  owes_other (Alloc c k x) who by h d n = h.3.2.held_overs d
  owes_other (Up c p x) who by h d n = h.2.held_overs d
  owes_other (Down c p x) who by h d n = h.2.held_overs d
  owes_other (ChangeUp c p x y) who by h d n = h.4.held_overs d ∙ at1_other a.held_over c x d (λ z. n (sym z ∙ by))
  owes_other (ChangeDown c x) who by h d n = h.2.held_overs d ∙ at1_other a.held_over c 0 d (λ z. n (sym z ∙ by))
  owes_other (Free c x) who by h d n = h.4.held_overs d

  -- the block x is one that this identity may free
  pub record IsFreed (who x : ℕ) : Type 0 where
    pub count : (headers w x).count ≡ 0
    pub client : (headers w x).client ≡ who
    pub empty : (i : ℕ) → i < tag_refs g.wide (w (Tag x)) → a.target (Body x i) ≡ 0

  lives_on : (x : ℕ) → b.live x ≡ a.live x → a.live x ≡ true → b.live x ≡ false → ⊥
  lives_on x same l d = false≢true (sym d ∙ (same ∙ l))

  pub freed_by : (e : Event) (who : ℕ) → IsBy who e → Happens g w e a b → (x : ℕ) → a.live x ≡ true → b.live x ≡ false → IsFreed who x
  freed_by Nothing who by h x l d = absurd (lives_on x (h.lives x) l d)
  freed_by (Alloc c k y) who by h x l d =
      elim (cases_eq y x) [
        | inl e ↦ absurd (false≢true (sym d ∙ (h.3.2.lives x ∙ subst (λ i. at1 a.live y true i ≡ true) e (at1_here a.live y true))))
        | inr n ↦ absurd (lives_on x (h.3.2.lives x ∙ at1_other a.live y true x n) l d)
      ]
  freed_by (Up c p y) who by h x l d = absurd (lives_on x (h.2.lives x) l d)
  freed_by (Down c p y) who by h x l d = absurd (lives_on x (h.2.lives x) l d)
  freed_by (ChangeUp c p y z) who by h x l d = absurd (lives_on x (h.4.lives x) l d)
  freed_by (ChangeDown c y) who by h x l d = absurd (lives_on x (h.2.lives x) l d)
  freed_by (Free c y) who by h x l d =
      elim (cases_eq y x) [
        | inl e ↦ subst (IsFreed who) e (record { count = h.1; client = h.2 ∙ by; empty = h.3 })
        | inr n ↦ absurd (lives_on x (h.4.lives x ∙ at1_other a.live y false x n) l d)
      ]

-- ---- identities that the pool doesn't have

no_change : (g : Geometry) (w : Spot → ℕ) (d : ℕ) → w (Redo d) ≡ 0 → (r : Option ARedo) → record_of g w d ≡ r → owed_by g w d r ≡ 0
no_change g w d z None q = refl
no_change g w d z (Some redos.Idle) q = refl
no_change g w d z (Some (redos.Up p b)) q = refl
no_change g w d z (Some (redos.Down p b)) q = refl
no_change g w d z (Some (redos.Change t p x y)) q = let k : ◌≡◌ {A = ℕ} 0 3 = sym (ap kind_of z) ∙ (change_told g.wide _ _ t p x y q).0 in absurd (omega arith)

beyond : (g : Geometry) (w : Spot → ℕ) (v : View) → HeldAt g w v → (d : ℕ) → g.clients ≤ d → owed g w d ≡ 0
beyond g w v h d o = no_change g w d
    (elim (cases_eq (w (Redo d)) 0) [
      | inl z ↦ z
      | inr n ↦ absurd (false≢true (sym (le-ltb d g.clients o) ∙ fixed_in g (classes w) (Redo d) h.fits refl (h.there (Redo d) n)))
    ])
    (record_of g w d) refl

-- ---- a word step

module _ (g : Geometry) (s : State) (t : Step) (held : Held g s.words s.accounts) (x : Turned g s (Word t)) where
  abbrev w : Spot → ℕ
  w = see g s.words

  abbrev v : View
  v = view (memos_of s.accounts)

  abbrev w' : Spot → ℕ
  w' = see g (words_set t.ask s.words)

  abbrev v' : View
  v' = view (memos_of (moved s (Word t)).accounts)

  named : (p : Spot) → names g w p ≡ targets g w v p
  named = names_told g w v (held_state_sound g s.words s.accounts held)

  named' : (p : Spot) → names g w' p ≡ targets g w' v' p
  named' = names_told g w' v' (held_state_sound g (moved s (Word t)).words (moved s (Word t)).accounts x.held)

  owes : (d : ℕ) → d < g.clients → owed g w d ≡ held_overs v d
  owes d l = owed_told g w v (held_state_sound g s.words s.accounts held) d l

  owes' : (d : ℕ) → d < g.clients → owed g w' d ≡ held_overs v' d
  owes' d l = owed_told g w' v' (held_state_sound g (moved s (Word t)).words (moved s (Word t)).accounts x.held) d l

  happened : Happens g w (event_at g s t) (graph_of g w v) (graph_of g w' v')
  happened = x.event.one_event.event

  by_it : IsBy t.me.who (event_at g s t)
  by_it = made_by (memos_of s.accounts t.me.who) t t.ask (spot_at g (classes_in g s.words) (at_of t.ask))

  made_live : (b : ℕ) → w' (Head b) ≢ 0 → IsLive (headers w') b
  made_live b n = elim (cases_Bool (headers w' b).live) [ inl l ↦ l | inr d ↦ absurd (n (x.held.at.blocks.plain b d)) ]

  pub step_made : IsStep g t.me.who t.ask (see g s.words) (see g (words_set t.ask s.words))
  step_made =
      let o = one_target g w (graph_of g w v) (graph_of g w' v') (event_at g s t) happened in
      record {
        inside = x.event.inside;
        one = (o.0, λ q n. o.1 q (λ z. n (named' q ∙ (z ∙ sym (named q)))));
        allocated = λ b free there p e. held_live_not_zero g w' v' x.held.at b (made_live b there) (sound_free g w v (held_state_sound g s.words s.accounts held) b free p (sym (named p) ∙ e));
        freed = λ b live none. let f = freed_by g w (graph_of g w v) (graph_of g w' v') (event_at g s t) t.me.who by_it happened b live (false_from_ne_true _ (λ l. live_not_zero (w' (Head b)) l none)) in (f.count, f.client, λ i l. named (Body b i) ∙ f.empty i l);
        others = λ d n. elim (cases_lt d g.clients) [
          | inl l ↦ owes' d l ∙ (owes_other g w (graph_of g w v) (graph_of g w' v') (event_at g s t) t.me.who by_it happened d n ∙ sym (owes d l))
          | inr k ↦ beyond g w' v' x.held.at d k ∙ sym (beyond g w v held.at d k)
        ];
      }
