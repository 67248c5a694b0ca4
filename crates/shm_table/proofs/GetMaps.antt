-- a get that answered a number and a block in a run: where it loads the value word of the entry the author's map has them at the key
use Rattle.std.specs.Option.{option_map}
use Rattle.std.proofs.Common.{◌≡◌, ℕ, ◌<◌, ◌%◌, refl, sym, ap, ◌∙◌, subst, append_assoc, List, [], ◌∷◌, ◌++◌, Option, Some, None}
use Rattle.shm_words.specs.{declared.geometry.Geometry.Geometry, Layout.address_limit}
use Rattle.shm_graph.specs.declared.{ask.Me.Me, memo.{Memo.Memo, Seen.Seen, Step.Step}, run.Move.Move}
use Rattle.shm_graph.specs.{declared.{run.Move.TheVariants.Word, spot.Spot.TheVariants.Body}, Asks.Trail}
use Rattle.shm_graph.specs.{Runs.{Held, IsMove, State, Turned, memos_of, moved}, Spots.see}
use Rattle.shm_graph.specs.Tells.{GoesOn, after_all, machine_steps}
use Rattle.shm_graph.proofs.Runs.Running.{Leads-append}
use Rattle.plans.specs.{declared.or.Or.TheVariants.{First, Second}, CallsControl.{answered, called_on, calls_of}}
use Rattle.plans.specs.{CallsFit.{CallsFits, CallsGives}, Proved.CallsKeep.{calls_begin, calls_laws}}
use Rattle.plans.specs.Proved.PlanKept.{kept_along}
use Rattle.shm_count.specs.Calling.{IsCall}
use Rattle.kind_parts.specs.Reparting.{map_in}
use Rattle.shm_script.specs.declared.log.Answer.{Answer}
use Rattle.shm_script.specs.declared.line.Line.TheVariants as line
use Rattle.shm_script.specs.declared.log.Answer.TheVariants as answer
use Rattle.shm_table.specs.declared.{find.Found.{Found, TheVariants.{Absent, At}}, get.GetPoint.GetPoint}
use Rattle.shm_table.specs.declared.get.{GetPoint.TheVariants.{Value, Number, Missing, Known}, GetState.GetState}
use Rattle.shm_table.specs.{Command.{CommandCall, command_control, command_of, given}, Find.{Control.word_ask, IsLook}}
use Rattle.shm_table.specs.Find.Tells.{HasKey, HasRead}
use Rattle.shm_table.specs.Proved.Find.Tells.{author_has, author_maps, author_names, author_value}
use Rattle.shm_table.specs.Proved.Get.{Laws.{get_begin, get_laws}, Tells.{named_shown, ready_told}}
use Rattle.shm_table.specs.Get.Control.{GetAnswer, GetCall, GetCalls, get_answer, get_parts, getting, get_steered}
use Rattle.shm_table.specs.Get.{Finding.{FindsAt, IsAnswered}, get_plan, Tells.{HasNamed, IsReady}}
use Rattle.shm_table.specs.Locate.{Control.{locating, locate_steered, LocateCalls, locate_control}, MayLocate}
use Rattle.shm_table.specs.Machines.Get.{get}
use Rattle.shm_table.specs.Unlatch.Control.{UnlatchCalls, unlatch_control, unlatching, unlatch_steered}
use Rattle.shm_table.proofs.{CallStates.{IsCalled, IsNext, comes, next_step}, Running.AsMade.start_kept}
use Rattle.shm_table.proofs.{ValueWords.word_stays, Within.{answered_within, goes_within, steps_within}}

-- ---- by the control: which word steps it makes where it answers a number and a block

-- a machine at this call
abbrev at : GetState → GetCall → GetCalls
at p c = record { plan = p; call = c }

-- the number and the block are known
record Has (p : GetState) (n v : ℕ) : Type 0 where
  point : p.point ≡ Known
  number : p.number ≡ n
  block : p.block ≡ v

-- after these pairs it loads the value word, then the number, and then it gives back the latch with them
record Reads (m : GetCalls) (tr : Trail) (n v : ℕ) : Type 0 where
  t : Trail
  y : Seen
  x : Seen
  z : Seen
  u : Trail
  split : tr ≡ t ++ y ∷ x ∷ z ∷ u
  asks : get.asks (after_all get m t) ≡ word_ask (after_all get m t).plan.entry 1
  same : (get.after (after_all get m t) y.word).plan.entry ≡ (after_all get m t).plan.entry
  named : HasNamed (get.after (after_all get m t) y.word)
  block : (get.after (after_all get m t) y.word).plan.block ≡ v
  ready : IsReady (get.after (get.after (after_all get m t) y.word) x.word)
  has : Has (get.after (get.after (after_all get m t) y.word) x.word).plan n v

-- one step earlier
reads_before : (m : GetCalls) (x : Seen) (tr : Trail) (n v : ℕ) → Reads (get.after m x.word) tr n v → Reads m (x ∷ tr) n v
reads_before m w tr n v h = record { t = w ∷ h.t; y = h.y; x = h.x; z = h.z; u = h.u; split = ap (λ ys. w ∷ ys) h.split; asks = h.asks; same = h.same; named = h.named; block = h.block; ready = h.ready; has = h.has }

-- where it answers them, it has them
answers_them : (p : GetState) (o : Option GetAnswer) (n v : ℕ) → answered get_parts get_steered p o ≡ Some (answer.Value n v) → Has p n v
answers_them p (Some (Second (Second done))) n v e = of p.point refl e
  where
    of : (y : GetPoint) → p.point ≡ y → Some (get_answer p y) ≡ Some (answer.Value n v) → Has p n v
    of Known is e = record { point = is; number = cc; block = cc }
    of _ is e = cc
answers_them p _ n v e = cc

-- where it is once the giving back of the latch, or the search, gave this
abbrev given_back : GetState → UnlatchCalls → Option (Unit {0}) → GetCalls
given_back p c o = called_on get_parts get_steered p (Second (Second c)) (option_map Second (option_map Second o))

abbrev searched : GetState → LocateCalls → Option Found → GetCalls
searched p c o = called_on get_parts get_steered p (First c) (option_map First o)

-- while it gives back the latch
giving_back : (p : GetState) (c : UnlatchCalls) (tr : Trail) (n v : ℕ) → GoesOn get (at p (Second (Second c))) tr → IsAnswered get (at p (Second (Second c))) tr (answer.Value n v) → Has p n v
giving_back p c [] n v on ends = absurd ends
giving_back p c (x ∷ []) n v on ends = answers_them p (get_parts.turns (Second (Second c)) x.word) n v ends
giving_back p c (x ∷ y ∷ tr) n v on ends = go (λ g a. giving_back p (unlatch_control.after c x.word) (y ∷ tr) n v g a) (unlatch_control.turns c x.word) on.1.0 on.1.1 ends
  where
    go : (GoesOn get (given_back p (unlatch_control.after c x.word) None) (y ∷ tr) → IsAnswered get (given_back p (unlatch_control.after c x.word) None) (y ∷ tr) (answer.Value n v) → Has p n v) → (o : Option (Unit {0})) → answered get_parts get_steered p (option_map Second (option_map Second o)) ≡ None → GoesOn get (given_back p (unlatch_control.after c x.word) o) (y ∷ tr) → IsAnswered get (given_back p (unlatch_control.after c x.word) o) (y ∷ tr) (answer.Value n v) → Has p n v
    go rest None e g a = rest g a
    go rest (Some done) e g a = cc

-- the load of the number of block v, and then the latch
abbrev numbering : GetState → ℕ → GetState
numbering p v = record p { block = v; point = Number }

number_read : (p : GetState) (v : ℕ) (x z : Seen) (u : Trail) (n b : ℕ) → GoesOn get (calls_of get_steered (numbering p v)) (x ∷ z ∷ u) → IsAnswered get (calls_of get_steered (numbering p v)) (x ∷ z ∷ u) (answer.Value n b) → Has (record p { block = v; number = x.word; point = Known }) n b
number_read p v x z u n b on ends = giving_back (record p { block = v; number = x.word; point = Known }) (calls_of unlatch_steered (unlatching p.me p.author)) (z ∷ u) n b on.1.1 ends

-- the load of the value word of an entry, and then the number
abbrev valuing : GetState → ℕ → GetState
valuing p e = record p { entry = e; point = Value }

value_read : (p : GetState) (e : ℕ) (tr : Trail) (n v : ℕ) → GoesOn get (calls_of get_steered (valuing p e)) tr → IsAnswered get (calls_of get_steered (valuing p e)) tr (answer.Value n v) → Reads (calls_of get_steered (valuing p e)) tr n v
value_read p e [] n v on ends = absurd ends
value_read p e (y ∷ x ∷ z ∷ u) n v on ends =
    let has = number_read (valuing p e) (y.word % address_limit) x z u n v on.1.1 ends in
    record { t = []; y = y; x = x; z = z; u = u; split = refl; asks = refl; same = refl; named = record { point = refl; call = refl }; block = has.block; ready = record { point = refl; call = refl }; has = has }
value_read p e (y ∷ _) n v on ends = cc

-- the latch and the search, and then the value word
searching : (p : GetState) (c : LocateCalls) (tr : Trail) (n v : ℕ) → GoesOn get (at p (First c)) tr → IsAnswered get (at p (First c)) tr (answer.Value n v) → Reads (at p (First c)) tr n v
searching p c [] n v on ends = absurd ends
searching p c (x ∷ []) n v on ends = last (locate_control.turns c x.word) ends
  where
    last : (o : Option Found) → answered get_parts get_steered p (option_map First o) ≡ Some (answer.Value n v) → Reads (at p (First c)) (x ∷ []) n v
    last None e = cc
    last (Some f) e = cc
searching p c (x ∷ y ∷ tr) n v on ends = reads_before (at p (First c)) x (y ∷ tr) n v (go (λ g a. searching p (locate_control.after c x.word) (y ∷ tr) n v g a) (locate_control.turns c x.word) on.1.1 ends)
  where
    nowhere : Has (record p { point = Missing }) n v → ⊥
    nowhere h = (let e = h.point in cc)

    go : (GoesOn get (searched p (locate_control.after c x.word) None) (y ∷ tr) → IsAnswered get (searched p (locate_control.after c x.word) None) (y ∷ tr) (answer.Value n v) → Reads (searched p (locate_control.after c x.word) None) (y ∷ tr) n v) → (o : Option Found) → GoesOn get (searched p (locate_control.after c x.word) o) (y ∷ tr) → IsAnswered get (searched p (locate_control.after c x.word) o) (y ∷ tr) (answer.Value n v) → Reads (searched p (locate_control.after c x.word) o) (y ∷ tr) n v
    go rest None g a = rest g a
    go rest (Some (At e b w)) g a = value_read p (e % address_limit) (y ∷ tr) n v g a
    go rest (Some (Absent home first)) g a = absurd (nowhere (giving_back (record p { point = Missing }) (calls_of unlatch_steered (unlatching p.me p.author)) (y ∷ tr) n v g a))

-- ---- in a run

-- a map has one number at a key
abbrev number_of : Option (ℕ × ℕ) → ℕ
number_of None = 0
number_of (Some p) = p.0

one_number : (i j d : ℕ) (o : Option (ℕ × ℕ)) → o ≡ Some (i, d) → o ≡ Some (j, d) → i ≡ j
one_number i j d o e f = ap number_of {x = Some (i, d)} {y = Some (j, d)} (sym e ∙ f)

module _ (me : Me) (author key : ℕ) (low : me.who < me.geometry.clients) (b : State) (r0 : Memo) where
  abbrev m : GetCalls
  m = calls_of get_steered (getting me author key)

  abbrev g : Geometry
  g = me.geometry

  abbrev Called : State → List Move → GetCalls → Trail → Type 0
  Called = IsCalled get (CallsFits get_parts get_plan) (CallsGives get_parts get_plan) (calls_laws get_parts get_plan get_laws) g me.who low b r0

  abbrev Next : (State → Type 0) → State → List Move → GetCalls → Seen → Trail → Type 0
  Next = IsNext get (CallsFits get_parts get_plan) (CallsGives get_parts get_plan) (calls_laws get_parts get_plan get_laws) g me.who low b r0

  -- it is made for the same key on the way
  made_so : (t : Trail) → get_steered.start (after_all get m t).plan ≡ getting me author key
  made_so t = kept_along get (λ (x : GetCalls). get_steered.start x.plan ≡ getting me author key) (start_kept get_parts get_plan get_laws (getting me author key)) m t refl

  -- a machine that is made so
  record IsMade (c : GetCalls) : Type 0 where
    me_is : c.plan.me ≡ me
    author_is : c.plan.author ≡ author
    key_is : c.plan.key ≡ key

  made_after : (c : GetCalls) (n : ℕ) → get_steered.start c.plan ≡ getting me author key → get_steered.start (get.after c n).plan ≡ getting me author key
  made_after c n e = start_kept get_parts get_plan get_laws (getting me author key) c n e

  is_made : (c : GetCalls) → get_steered.start c.plan ≡ getting me author key → IsMade c
  is_made c so = record { me_is = ap (λ (p : GetState). p.me) so; author_is = ap (λ (p : GetState). p.author) so; key_is = ap (λ (p : GetState). p.key) so }

  -- the memo shows the chain up to this entry, and that its value word names v
  abbrev Shows : Memo → ℕ → ℕ → Type 0
  Shows r entry v = HasRead author r key entry × IsLook r (Body entry 1) v

  -- that is so once the value word was loaded
  shown_named : (s : State) (ms : List Move) (c : GetCalls) (tr : Trail) → Called s ms c tr → HasNamed c → IsMade c → Shows (memos_of s.accounts me.who) c.plan.entry c.plan.block
  shown_named s ms c tr h named made =
      let r : Memo = memos_of s.accounts me.who in
      let k = named_shown c r0 r _ h.fit named in
      (subst (λ a. HasRead a r key c.plan.entry) made.author_is (subst (λ y. HasRead c.plan.author r y c.plan.entry) made.key_is k.1), k.2)

  -- and once the number was, which is then the word of the block
  number_ready : (s : State) (ms : List Move) (c : GetCalls) (tr : Trail) → Called s ms c tr → IsReady c → IsMade c → see g s.words (Body c.plan.block 0) ≡ c.plan.number
  number_ready s ms c tr h ready made =
      let r : Memo = memos_of s.accounts me.who in
      let told = (ready_told c r0 r _ h.fit ready).1 in
      let has : HasRead author r key c.plan.entry = subst (λ a. HasRead a r key c.plan.entry) made.author_is (subst (λ y. HasRead c.plan.author r y c.plan.entry) made.key_is told.has) in
      let w = see g s.words in
      one_number (w (Body c.plan.block 0)) c.plan.number c.plan.block (map_in (memos_of s.accounts author).part key)
      (author_names me author key c.plan.entry c.plan.block r has told.look low w (memos_of s.accounts) h.held.at refl)
      (author_maps me author key c.plan.entry c.plan.block c.plan.number r has told.look told.number low w (memos_of s.accounts) h.held.at refl)

  -- while the memo shows it, the word of the value block stays
  stays : (entry v : ℕ) (r : Memo) → Shows r entry v → (x : ℕ) (q : State) (z : Move) → Held g q.words q.accounts → memos_of q.accounts me.who ≡ r → IsMove q z → Turned g q z → see g q.words (Body v 0) ≡ x → see g (moved q z).words (Body v 0) ≡ x
  stays entry v r shows x q z held memo may turned e =
      let shape = author_value me author key entry v r shows.0 shows.1 low (see g q.words) (memos_of q.accounts) held.at memo in
      word_stays g q v 0 held shape.live shape.names z may turned ∙ e

  -- where the value word is loaded
  finds : (a : State) (ms : List Move) (tr : Trail) (n v : ℕ) (h : Reads m tr n v) → Called a ms m (h.t ++ h.y ∷ h.x ∷ h.z ∷ h.u) → FindsAt me author key n v a ms b
  finds a ms tr n v h called =
      let (before, s0, after, split, to, here) = comes get (CallsFits get_parts get_plan) (CallsGives get_parts get_plan) (calls_laws get_parts get_plan get_laws) g me.who low b r0 h.t a ms m h.y (h.x ∷ h.z ∷ h.u) called in
      let c0 : GetCalls = after_all get m h.t in
      let c1 : GetCalls = get.after c0 h.y.word in
      let c2 : GetCalls = get.after c1 h.x.word in
      let so : get_steered.start c0.plan ≡ getting me author key = made_so h.t in
      let n1 : Next (λ q. Unit {0}) s0 after c0 h.y (h.x ∷ h.z ∷ h.u) =
      next_step get (CallsFits get_parts get_plan) (CallsGives get_parts get_plan) (calls_laws get_parts get_plan get_laws) g me.who low b r0 (λ q. Unit {0}) (memos_of s0.accounts me.who) (λ q z held memo may turned before. tt) c0 h.y [] h.x (h.z ∷ h.u) s0 after refl tt here in
      let s1 : State = moved n1.s (Word n1.t) in
      let made1 : IsMade c1 = is_made c1 (made_after c0 h.y.word so) in
      let made2 : IsMade c2 = is_made c2 (made_after c1 h.x.word (made_after c0 h.y.word so)) in
      let r1 : Memo = memos_of s1.accounts me.who in
      let shows : Shows r1 c1.plan.entry c1.plan.block = shown_named s1 n1.after c1 (h.x ∷ h.z ∷ h.u) n1.called h.named made1 in
      let word : ℕ = see g s1.words (Body c1.plan.block 0) in
      let keep = stays c1.plan.entry c1.plan.block r1 shows word in
      let n2 : Next (λ q. see g q.words (Body c1.plan.block 0) ≡ word) s1 n1.after c1 h.x (h.z ∷ h.u) =
      next_step get (CallsFits get_parts get_plan) (CallsGives get_parts get_plan) (calls_laws get_parts get_plan get_laws) g me.who low b r0 (λ q. see g q.words (Body c1.plan.block 0) ≡ word) r1 keep c1 h.x [] h.z h.u s1 n1.after refl refl n1.called in
      let s2 : State = moved n2.s (Word n2.t) in
      let lasts : see g s2.words (Body c1.plan.block 0) ≡ word = keep n2.s (Word n2.t) n2.held n2.same n2.move n2.turned n2.lasts in
      let number : word ≡ n = sym lasts ∙ (ap (λ d. see g s2.words (Body d 0)) (h.block ∙ sym h.has.block) ∙ (number_ready s2 n2.after c2 (h.z ∷ h.u) n2.called h.ready made2 ∙ h.has.number)) in
      let names : map_in (memos_of s1.accounts author).part key ≡ Some (word, c1.plan.block) = author_names me author key c1.plan.entry c1.plan.block r1 shows.0 shows.1 low (see g s1.words) (memos_of s1.accounts) n1.called.held.at refl in
      record {
        before = before ++ n1.before;
        s = n1.s;
        t = n1.t;
        after = n1.after;
        split = split ∙ (ap (λ (ys : List Move). before ++ ys) n1.split ∙ sym (append_assoc before n1.before (Word n1.t ∷ n1.after)));
        to = Leads-append g a before s0 n1.before n1.s to n1.to;
        from = n1.called.run;
        entry = c0.plan.entry;
        step = ap (λ (t : Step). t.me) n1.step ∙ ap (λ (p : GetState). p.me) so;
        loads = ap (λ (t : Step). t.ask) n1.step ∙ h.asks;
        has = subst (HasKey (memos_of s1.accounts author).part key) h.same (author_has me author key c1.plan.entry r1 shows.0 low (see g s1.words) (memos_of s1.accounts) n1.called.held.at refl);
        map = names ∙ (ap (λ k. Some (k, c1.plan.block)) number ∙ ap (λ k. Some (n, k)) h.block);
      }

pub found_in_run : (me : Me) (author key : ℕ) (a : State) (ms : List Move) (b : State) (tr : Trail) (n v : ℕ) → MayLocate me author (memos_of a.accounts me.who) → IsCall get (calls_of get_steered (getting me author key)) a ms b tr → IsAnswered get (calls_of get_steered (getting me author key)) tr (answer.Value n v) → FindsAt me author key n v a ms b
found_in_run me author key a ms b tr n v may call ends =
    let r0 : Memo = memos_of a.accounts me.who in
    let begins : CallsFits get_parts get_plan (calls_of get_steered (getting me author key)) r0 r0 [] = calls_begin get_parts get_plan get_laws (getting me author key) r0 refl refl (get_begin me author key r0 may) in
    let h = searching (getting me author key) (calls_of locate_steered (locating me author key)) tr n v call.goes ends in
    finds me author key call.who b r0 a ms tr n v h
    (record {
      long = call.account;
      held = call.held;
      unbroken = call.unbroken;
      run = call.run;
      me = refl;
      fit = begins;
      goes = subst (GoesOn get (calls_of get_steered (getting me author key))) h.split call.goes;
      steps = call.steps ∙ ap (machine_steps get (calls_of get_steered (getting me author key))) h.split;
    })

-- ---- as a command

-- the command of a get
abbrev commanded : GetCalls → CommandCall
commanded c = Second (First (Second c))

answers_same : (o : Option Answer) → option_map given (option_map Second (option_map First (option_map Second o))) ≡ o
answers_same None = refl
answers_same (Some a) = refl

pub found_by_command : (me : Me) (author key : ℕ) (a : State) (ms : List Move) (b : State) (tr : Trail) (n v : ℕ) → MayLocate me author (memos_of a.accounts me.who) → IsCall command_control (command_of me (line.Get author key)) a ms b tr → IsAnswered command_control (command_of me (line.Get author key)) tr (answer.Value n v) → FindsAt me author key n v a ms b
found_by_command me author key a ms b tr n v may call ends =
    let c : GetCalls = calls_of get_steered (getting me author key) in
    let turns : (m : GetCalls) (i : ℕ) → command_control.turns (commanded m) i ≡ get.turns m i = λ m i. answers_same (get.turns m i) in
    found_in_run me author key a ms b tr n v may
    (record {
      who = call.who;
      account = call.account;
      held = call.held;
      run = call.run;
      unbroken = call.unbroken;
      goes = goes_within get command_control commanded (λ m i. refl) (λ m i. refl) (λ m. refl) turns c tr call.goes;
      steps = call.steps ∙ steps_within get command_control commanded (λ m i. refl) (λ m i. refl) (λ m. refl) turns c tr;
    })
    (answered_within get command_control commanded (λ m i. refl) (λ m i. refl) (λ m. refl) turns c tr (answer.Value n v) ends)
