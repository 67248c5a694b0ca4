-- many word steps of a machine on the table: what holds between two of them, what each tells, and how they end
use Rattle.std.proofs.Common.{◌≡◌, ℕ, zero, suc, ◌+◌, ◌<◌, Bool, true, false, cond, List, [], ◌∷◌, ◌++◌, append_assoc, refl, sym, ap, ◌∙◌, subst, arith, true≢false}
use Rattle.std.proofs.lemmas.List.{append_cancel_left}
use Rattle.std.specs.Prelude.{Option, Some, None, IfSome, IsNone, if◌then◌else◌}
use Rattle.atomic_table.specs.{Table.Me as Mine, Seated.TableId, declared.shared.Seat.Seat}
use Rattle.shm_words.specs.Layout.{total_of}
use Rattle.shm_graph.specs.declared.{ask.{Ask.Ask, Me.Me, Turn.{Turn, TheVariants.Done}}, memo.{Memo.Memo, Seen.Seen}}
use Rattle.shm_graph.specs.{declared.{memo.Step.Step, run.{Account.Account, Start.Start}}, Agents.{acts, recovers}}
use Rattle.shm_graph.specs.{Asks.{Trail, at_of, call_before, pair, seen_of}, Changes.asked_spot}
use Rattle.shm_graph.specs.{Laws.{Control, Laws, Outcome, is_some, step_of, turn_of}, ManySteps.{HasRun, MayRun, Stop}}
use Rattle.shm_graph.specs.{Runs.{Stood, account_after}, Tells.after_all, Whole.{fits_now, gives_now}}
use Rattle.shm_graph.proofs.Machines.{TellsAlong.after_all-append, Wholes.{whole_inside, whole_keeps}}
use Rattle.shm_graph.proofs.Memos.MemoSteps.{memo_call}
use Rattle.shm_pool.specs.Rules.{AccountTold, IsAlone, IsOf, alone, head_account}
use Rattle.shm_pool.specs.{Sites.{MayMake, Made, last_word, told_of}, Tokens.has_left}
use Rattle.shm_pool.specs.Calls.{ClientStepped, Drives, IsDriven, Ongoing, StillFits, TellsLine, acts_still, answer_in, shown}
use Rattle.shm_pool.proofs.Calling.{acts_stepped, goes_on, is_over, kind_same, serves_on, still_here, still_of, tells}
use Rattle.shm_pool.proofs.{Driving.{cut, driven_none, more, whole}, Sites.{given_after, told_seen}, Stepping.allowed}

-- the seat of an identity
abbrev Place : Type 0
Place = Seat (Unit {0}) (List Account)

or_answers : {A : Type 0} (o : Option A) (P : Type 0) → (o ≡ None → P) → Outcome o P (λ a. Unit {0})
or_answers None P f = f refl
or_answers (Some a) P f = tt

module _ {M A : Type 0} (k : Control M A) (fits : M → Memo → Memo → Trail → Type 0) (gives : M → Memo → Memo → Trail → A → Type 0) (s : Start) where
  -- one word step in the account
  pub record OneStep (m : M) (e : Account) (t : Turn A) (m' : M) (e' : Account) : Type 0 where
    pub stood : Stood s e'
    pub step : ClientStepped k (fits_now k fits) (gives_now gives) m e e' t m'

  -- between two word steps of the call that m0 began, where the account was e0, with a life of `before`
  pub record Between (m0 : M) (e0 : Account) (before left : ℕ) (m : M) (e : Account) : Type 0 where
    pub is_of : IsOf s.geometry e k m
    pub stood : Stood s e
    pub suits : fits_now k fits m e0.memo e.memo
    pub back : (r : Memo) (a : A) → gives_now gives m e0.memo r a → gives_now gives m0 e0.memo r a
    pub same_who : e.who ≡ e0.who
    pub same_kind : recovers e.memo ≡ recovers e0.memo
    pub here : has_left e0.memo ≡ false → has_left e.memo ≡ false
    pub so_far : (o : Ongoing (shown k m0) e0 (shown k m) e before left) × IsDriven k fits m0 m e0 e o.steps

  -- how that call ended
  pub record HasEnded (m0 : M) (e0 : Account) (before left : ℕ) (m : M) (e : Account) (result : Option A) : Type 0 where
    pub stood : Stood s e
    pub call : Drives k fits m0 m e0 e (is_some result) before left
    pub cut : IsNone result → StillFits k (fits_now k fits) m e0.memo e.memo
    pub told : k.fresh m0 ≡ true → IfSome result (λ a. TellsLine (k.line m0) e0 e)
    pub spent : IsNone result → left ≡ 0
    pub gave : IfSome result (gives_now gives m0 e0.memo e.memo)
    pub serves : has_left e0.memo ≡ false → acts e.memo ≡ (if has_left e.memo then false else true)
    pub acts : acts e.memo ≡ acts_still (is_some result) e.memo
    pub there : has_left e0.memo ≡ false → IsNone result → has_left e.memo ≡ false
    pub who : e.who ≡ e0.who
    pub kind : recovers e.memo ≡ recovers e0.memo

  -- the machine m has made a step, and the account's call leads to it from m1, whose call was c; the seat is the one that w0 was
  pub record IsLed (w0 : Place) (m1 : M) (c : Trail) (m : M) (w : Place) : Type 0 where
    pub place : (w.table_id ≡ w0.table_id) × (w.id ≡ w0.id) × IsAlone w
    pub started : k.fresh m ≡ false
    pub tr : Trail
    pub call : (alone w).memo.call ≡ c ++ tr
    pub leads : m ≡ after_all k m1 tr

  -- what each word step tells: that it is the one of the machine to which the account's call leads
  abbrev pub SaysLed : M → Trail → List Account → ℕ → List Account → Type 0
  SaysLed m1 c before n now =
      (tr : Trail) → (head_account before).memo.call ≡ c ++ tr
      → (now ≡ head_account now ∷ []) × AccountTold k (fits_now k fits) (gives_now gives) s (after_all k m1 tr) (head_account before) (seen_of (k.asks (after_all k m1 tr)) n) (head_account now)

  module _ (laws : Laws k fits gives) where
    pub at_first : (m : M) (e : Account) (n : ℕ) → IsOf s.geometry e k m → Stood s e → fits_now k fits m e.memo e.memo → Between m e n n m e
    at_first m e n is_of stood suits =
        record {
          is_of = is_of;
          stood = stood;
          suits = suits;
          back = λ r a h. h;
          same_who = refl;
          same_kind = refl;
          here = λ h. h;
          so_far = (record { steps = []; going = tt; account = refl; life = omega arith; me = refl; line = refl; first = refl }, driven_none k fits gives laws m e);
        }

    -- ---- one word step more, and the last one

    module _ (m0 : M) (e0 : Account) (before : ℕ) where
      who_of : (left : ℕ) (m : M) (e : Account) → Between m0 e0 before left m e → ((k.me m).who ≡ e.who) × ((k.me m).who < (k.me m).geometry.clients)
      who_of left m e b = (ap (λ (z : Me). z.who) b.is_of.0, subst (λ (z : Me). z.who < z.geometry.clients) (sym b.is_of.0) b.is_of.1)

      serves_after : (m : M) (e : Account) (t : Turn A) (m' : M) (e' : Account) → acts e.memo ≡ true → OneStep m e t m' e' → acts e'.memo ≡ cond (has_left e'.memo) false true
      serves_after m e t m' e' acting x = subst (λ (z : Account). acts z.memo ≡ cond (has_left z.memo) false true) (sym x.step.account) (serves_on e (step_of k m x.step.seen) acting)

      pub further : (left left' : ℕ) (m : M) (e : Account) (t : Turn A) (m' : M) (e' : Account) → Between m0 e0 before left m e → (x : OneStep m e t m' e') → left' + 1 ≡ left → k.turns m x.step.seen ≡ None → Between m0 e0 before left' m' e'
      further left left' m e t m' e' b x down none =
          let is_of = still_of k (fits_now k fits) (gives_now gives) laws.steady s.geometry m e e' t m' b.is_of x.step none in
          let who = who_of left m e b in
          record {
            is_of = is_of;
            stood = x.stood;
            suits = goes_on k (fits_now k fits) (gives_now gives) m e e' t m' e0.memo b.suits x.step none;
            back = λ r a h. b.back r a (laws.back m x.step.seen b.is_of.2 none e0.memo r r.call a (subst (λ z. gives_now gives z e0.memo r a) x.step.next h));
            same_who = ap (λ (z : Account). z.who) x.step.account ∙ b.same_who;
            same_kind = ap (λ (z : Account). recovers z.memo) x.step.account ∙ (kind_same e (step_of k m x.step.seen) ∙ b.same_kind);
            here = λ h. still_here (has_left e'.memo) (sym is_of.3 ∙ serves_after m e t m' e' b.is_of.3 x);
            so_far = more k fits gives laws m0 m m' e0 e e' t e0.memo before left left' who.0 who.1 b.is_of.2 b.suits b.so_far.0 b.so_far.1 x.step none down;
          }

      pub ends_with : (left left' : ℕ) (m : M) (e : Account) (m' : M) (e' : Account) (a : A) → Between m0 e0 before left m e → (x : OneStep m e (Done a) m' e') → left' + 1 ≡ left → k.turns m x.step.seen ≡ Some a → HasEnded m0 e0 before left' m' e' (Some a)
      ends_with left left' m e m' e' a b x down some =
          let who = who_of left m e b in
          let all : Drives k fits m0 m' e0 e' true before left' = whole k fits gives laws m0 m m' e0 e e' (Done a) e0.memo before left left' a who.0 who.1 b.is_of.2 b.suits b.so_far.0 b.so_far.1 x.step some down in
          record {
            stood = x.stood;
            call = all;
            cut = λ n. absurd (true≢false n);
            told = λ fresh. tells (shown k m0) e0 e' before left' fresh all.call;
            spent = λ n. absurd (true≢false n);
            gave = b.back e'.memo a (is_over k (fits_now k fits) (gives_now gives) m e e' (Done a) m' e0.memo a b.suits x.step some);
            acts = acts_stepped k (fits_now k fits) (gives_now gives) laws.steady m e e' (Done a) m' b.is_of.2 b.is_of.3 x.step;
            serves = λ h. serves_after m e (Done a) m' e' b.is_of.3 x;
            there = λ h n. absurd (true≢false n);
            who = ap (λ (z : Account). z.who) x.step.account ∙ b.same_who;
            kind = ap (λ (z : Account). recovers z.memo) x.step.account ∙ (kind_same e (step_of k m x.step.seen) ∙ b.same_kind);
          }

      -- no life is left
      pub ends_short : (left : ℕ) (m : M) (e : Account) → left ≡ 0 → Between m0 e0 before left m e → HasEnded m0 e0 before left m e None
      ends_short left m e spent b = record {
        stood = b.stood;
        call = cut k fits gives laws m0 m e0 e before left b.so_far.0 b.so_far.1;
        cut = λ n. record { going = b.is_of.2; suits = b.suits };
        told = λ fresh. tt;
        spent = λ n. spent;
        gave = tt;
        acts = b.is_of.3;
        serves = λ h. b.is_of.3 ∙ ap (λ (x : Bool). cond x false true) (sym (b.here h));
        there = λ h n. b.here h;
        who = b.same_who;
        kind = b.same_kind;
      }

    -- ---- many word steps

    module _ (t : TableId) (w0 : Place) (m0 : M) (e0 : Account) (before : ℕ) (same : w0.table_id ≡ t) (all : t.words ≡ total_of s.geometry) (m1 : M) (c : Trail) where
      -- the site allows the next word step, which tells so
      may_make : (left : ℕ) (m : M) (w : Place) → Between m0 e0 before left m (alone w) → IsLed w0 m1 c m w → MayMake s t (SaysLed m1 c) w (k.asks m)
      may_make left m w b l =
          let e : Account = alone w in
          let a : Ask = k.asks m in
          let h = whole_inside k fits gives laws m e0.memo e.memo (subst (λ (z : Me). z.who < z.geometry.clients) (sym b.is_of.0) b.is_of.1) b.suits b.is_of.2 in
          let leads : (tr : Trail) → e.memo.call ≡ c ++ tr → m ≡ after_all k m1 tr = λ tr is. l.leads ∙ ap (after_all k m1) (append_cancel_left c l.tr tr (sym l.call ∙ is)) in
          record {
            table = l.place.0 ∙ same;
            here = subst (λ (z : ℕ). at_of a < z) (sym all) (subst (λ (z : Me). at_of a < total_of z.geometry) b.is_of.0 h);
            spare = ap (λ (y : Mine (Unit {0}) (List Account)). y.1) l.place.2;
            allowed = allowed k (fits_now k fits) (gives_now gives) (whole_keeps k fits gives laws) s _ _ m e _ l.place.2 b.is_of e0.memo b.suits (told_of a) (told_seen a) (SaysLed m1 c)
                (λ n learns stood made tr is. let e' : Account = account_after e (step_of k m (seen_of a n)) in
                subst (λ (p : M). (e' ∷ [] ≡ e' ∷ []) × AccountTold k (fits_now k fits) (gives_now gives) s p e (seen_of (k.asks p) n) e') (leads tr is) (refl, (refl, learns, stood, made))) a refl;
            given = λ n now said. given_after e (step_of k m (seen_of a (told_of a n))) now
                (subst (λ (p : M). head_account now ≡ account_after e (step_of k p (seen_of (k.asks p) (told_of a n)))) (sym l.leads) (said l.tr l.call).1.0) ∙ told_seen a n;
          }

      -- the word step that was made is the one of the machine
      was_made : (m : M) (w u : Place) → IsLed w0 m1 c m w → Made (SaysLed m1 c) w u → (x : OneStep m (alone w) (turn_of (k.turns m (last_word u))) (k.after m (last_word u)) (alone u)) × ((x.step.seen ≡ last_word u) × IsAlone u)
      was_made m w u l made =
          let e : Account = alone w in
          let found : ℕ = made.told.0 in
          let n : ℕ = seen_of (k.asks m) found in
          let said = subst (λ (p : M). (u.me.0 ≡ alone u ∷ []) × AccountTold k (fits_now k fits) (gives_now gives) s p e (seen_of (k.asks p) found) (alone u)) (sym l.leads) (made.told.1 l.tr l.call) in
          let is : last_word u ≡ n = given_after e (step_of k m n) u.me.0 said.1.0 in
          let told = subst (λ (z : ℕ). AccountTold k (fits_now k fits) (gives_now gives) s m e z (alone u)) (sym is) said.1 in (
            record { stood = told.2; step = record { seen = last_word u; account = told.0; next = refl; turn = refl; made = told.3; suits = told.1 } },
            (refl, λ i. (said.0 i, made.spare i)),
          )

      led_on : (m : M) (w u : Place) (o : Turn A) (m' : M) → k.finished m ≡ false → IsLed w0 m1 c m w → Made (SaysLed m1 c) w u → IsAlone u → OneStep m (alone w) o m' (alone u) → IsLed w0 m1 c m' u
      led_on m w u o m' going l made is_alone x =
          let e : Account = alone w in
          let r : Seen = pair (k.asks m) x.step.seen in
          let now : Step = step_of k m x.step.seen in
          record {
            place = (made.table ∙ l.place.0, made.id ∙ l.place.1, is_alone);
            started = ap k.fresh x.step.next ∙ (laws.steady m x.step.seen going).started;
            tr = l.tr ++ r ∷ [];
            call = ap (λ (z : Account). z.memo.call) x.step.account
                ∙ (memo_call e.memo now (asked_spot e.memo now)
                ∙ (ap (λ (b : Bool). call_before b e.memo.call ++ r ∷ []) l.started ∙ (ap (λ (z : Trail). z ++ r ∷ []) l.call ∙ append_assoc c l.tr (r ∷ []))));
            leads = x.step.next ∙ (ap (λ (z : M). k.after z x.step.seen) l.leads ∙ sym (after_all-append k m1 l.tr r));
          }

      abbrev Ran : ℕ → M → Place → Stop M Place A → Type 0
      Ran = HasRun k (λ v a u. Made (SaysLed m1 c) v u) (λ v a u. last_word u)

      pub may_run : (n : ℕ) (m : M) (w : Place) → Between m0 e0 before n m (alone w) → IsLed w0 m1 c m w → MayRun k (MayMake s t (SaysLed m1 c)) (λ v a u. Made (SaysLed m1 c) v u) (λ v a u. last_word u) n m w
      may_run zero m w b l = tt
      may_run (suc n) m w b l = (
        b.is_of.2,
        may_make (suc n) m w b l,
        λ u made.
            let x = was_made m w u l made in
            let m' : M = k.after m (last_word u) in
            or_answers (k.turns m (last_word u)) (MayRun k (MayMake s t (SaysLed m1 c)) (λ v a u. Made (SaysLed m1 c) v u) (λ v a u. last_word u) n m' u)
            (λ none. may_run n m' u (further m0 e0 before (suc n) n m (alone w) _ m' (alone u) b x.0 (omega arith) (ap (k.turns m) x.1.0 ∙ none)) (led_on m w u _ m' b.is_of.2 l made x.1.1 x.0)),
      )

      -- how they ended: the call, and the seat
      abbrev pub RunEnded : Stop M Place A → Type 0
      RunEnded z = HasEnded m0 e0 before z.left z.machine (alone z.words) (answer_in z.turn) × ((z.words.table_id ≡ w0.table_id) × (z.words.id ≡ w0.id) × IsAlone z.words)

      by_answer : (n : ℕ) (m : M) (w u : Place) (z : Stop M Place A) (o : Option A) → IsLed w0 m1 c (k.after m (last_word u)) u → Between m0 e0 before (suc n) m (alone w) → (x : OneStep m (alone w) (turn_of o) (k.after m (last_word u)) (alone u)) → k.turns m x.step.seen ≡ o
          → (o ≡ None → Ran n (k.after m (last_word u)) u z → RunEnded z) → Outcome o (Ran n (k.after m (last_word u)) u z) (λ a. z ≡ record { left = n; machine = k.after m (last_word u); words = u; turn = Done a }) → RunEnded z
      by_answer n m w u z None l b x is f r = f refl r
      by_answer n m w u z (Some a) l b x is f r = subst RunEnded (sym r) (ends_with m0 e0 before (suc n) n m (alone w) (k.after m (last_word u)) (alone u) a b x (omega arith) is, l.place)

      pub has_ended : (n : ℕ) (m : M) (w : Place) (z : Stop M Place A) → Between m0 e0 before n m (alone w) → IsLed w0 m1 c m w → Ran n m w z → RunEnded z
      has_ended zero m w z b l e = subst RunEnded (sym e) (ends_short m0 e0 before 0 m (alone w) refl b, l.place)
      has_ended (suc n) m w z b l r =
          let u : Place = r.0 in
          let x = was_made m w u l r.1 in
          let m' : M = k.after m (last_word u) in
          let l' : IsLed w0 m1 c m' u = led_on m w u _ m' b.is_of.2 l r.1 x.1.1 x.0 in
          by_answer n m w u z (k.turns m (last_word u)) l' b x.0 (ap (k.turns m) x.1.0)
          (λ none. has_ended n m' u z (further m0 e0 before (suc n) n m (alone w) _ m' (alone u) b x.0 (omega arith) (ap (k.turns m) x.1.0 ∙ none)) l') r.2
