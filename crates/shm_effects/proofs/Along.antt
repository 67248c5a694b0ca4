-- along a run in which an identity takes the turns that its script gives, whatever turns others take: the entries of its log take effect, one after the other
use Rattle.std.proofs.Common.{◌≡◌, ◌≢◌, ℕ, zero, suc, ◌+◌, ◌-◌, ◌^◌, ◌<◌, Bool, true, false, cond, List, [], ◌∷◌, ◌++◌, length, length-append, take, append_assoc, append-nil, refl, sym, ap, ◌∙◌, subst, inl, inr, arith}
use Rattle.std.proofs.lemmas.{Bool.{cases_eq, true≢false}, List.take_all}
use Rattle.std.specs.Prelude.{◌⊎◌, Option, Some, None, slice_get, slice_index}
use Rattle.std.specs.FinMap as finmap
use Rattle.shm_words.specs.{declared.geometry.Geometry.Geometry, Layout.GeometryFits}
use Rattle.shm_graph.specs.declared.{ask.{Ask.Ask, Life.Life, Me.Me}, memo.{Kind.Kind, Memo.Memo, Step.Step}}
use Rattle.shm_graph.specs.declared.{table.Part.Part, run.{Account.Account, Move.Move}}
use Rattle.shm_graph.specs.{declared.run.{Move.TheVariants.{Word, Dies, Begins}, Start.Start}, Agents.acts}
use Rattle.shm_graph.specs.{Asks.{at_of, seen_of}, CallEvents.own_turns, Held.is_loose, Laws.{Outcome, step_of}}
use Rattle.shm_graph.specs.Runs.{EraFits, IsMove, Leads, State, Stood, Turned, account_after, account_at, account_by, account_died, account_entered, changed, first_account, first_state, first_words, memos_of, moved}
use Rattle.shm_graph.specs.Whole.{WholeKeeps, fits_now, gives_now}
use Rattle.shm_graph.proofs.{Machines.Wholes.whole_keeps, Memos.MemoSteps.acts-entered, Runs.Running.Leads-more}
use Rattle.shm_graph.proofs.Runs.OwnTurns.{own_first, own_skip, taker, turn_here, turn_there}
use Rattle.kind_parts.specs.Reparting.{map_in}
use Rattle.plans.specs.Deciding.{Foretells}
use Rattle.shm_count.specs.Roots.{member}
use Rattle.shm_plain.specs.{Pools.{IsOf, IsRun, Pool, pool, turn_on}, Proved.Standing.{named_in, stood_in}}
use Rattle.shm_plain.specs.{Tracks.kind_next, Working.{IsWorkOf, ready_account}}
use Rattle.shm_plain.proofs.Turning.{first_run, learned}
use Rattle.shm_script.specs.{declared.log.{End.End, Entry.Entry}, Logged.{Logged, folded}, Ranges.ScriptFits}
use Rattle.shm_script.specs.Values.{Scripted}
use Rattle.shm_table.specs.Command.{command_by, command_control, command_effect}
use Rattle.shm_agents.specs.{declared.agents.Standing.TheVariants.AtWork, Agents.{AgentsStand, Playing, Stage.Fresh}}
use Rattle.shm_agents.specs.{Turns.{lives_of, next_by}, Work.{Work, WorkFits, WorkGives, join_work, work_control}}
use Rattle.shm_agents.proofs.{Deaths.{IsSpent, acting}, Dying.CommandMaps, Loose.has_table}
use Rattle.shm_agents.proofs.{Over.{IsOver, is_over, over_idle}, Standing.{stands_now, stands_still}}
use Rattle.shm_agents.proofs.WorkLaws.{work_laws}
use Rattle.shm_agents.proofs.Turning as turning
use Rattle.shm_replay.specs.Closings.{SameTable}
use Rattle.shm_replay.proofs.{Gathering.same_some, Seating.standing_cases, Starting.account_first}
use Rattle.shm_headline.specs.{TurnsOf.{turn_of, turns_of}, WordRuns.{Steps, words_by}}
use Rattle.shm_team.specs.Visits.{AreStill}
use Rattle.shm_effects.specs.Effects.{HoldsMap, TakesEffect}
use Rattle.shm_effects.proofs.{Entries.{effective, effective_fold}, Falls.fell}
use Rattle.shm_effects.proofs.{Given.{AreGiven, IsGiven, account_given, accounts_given}, Maps.holds_map}
use Rattle.shm_effects.proofs.Steps.{Saw, Shows, saw_more}
use Rattle.shm_effects.proofs.Steps as steps

-- ---- lists

take_front : {A : Type 0} (xs ys : List A) (n : ℕ) → n ≡ length xs → take n (xs ++ ys) ≡ xs
take_front [] ys zero e = refl
take_front [] ys (suc n) e = absurd (omega arith)
take_front (x ∷ xs) ys zero e = absurd (omega arith)
take_front (x ∷ xs) ys (suc n) e = ap (λ zs. x ∷ zs) (take_front xs ys n (omega arith))

get_behind : {A : Type 0} (xs : List A) (y : A) (ys : List A) (n : ℕ) → n ≡ length xs → slice_get (xs ++ y ∷ ys) n ≡ Some y
get_behind [] y ys zero e = refl
get_behind [] y ys (suc n) e = absurd (omega arith)
get_behind (x ∷ xs) y ys zero e = absurd (omega arith)
get_behind (x ∷ xs) y ys (suc n) e = get_behind xs y ys n (omega arith)

pub first_life : (ns : List ℕ) → slice_get (lives_of ns) 0 ≡ Some (slice_index (lives_of ns) 0)
first_life [] = refl
first_life (n ∷ ns) = refl

first_same : {A : Type 0} (x y : A) (xs ys : List A) → x ∷ xs ≡ y ∷ ys → x ≡ y
first_same x y xs ys e = cc

rest_same : {A : Type 0} (x y : A) (xs ys : List A) → x ∷ xs ≡ y ∷ ys → xs ≡ ys
rest_same x y xs ys e = cc

-- ---- accounts

pub keeps : WholeKeeps work_control (fits_now work_control WorkFits) (gives_now WorkGives)
keeps = whole_keeps work_control WorkFits WorkGives work_laws

-- an account of which an agent acts
acting_ready : (e : Account) → acts e.memo ≡ true → ready_account e ≡ e
acting_ready e h = ap (λ (b : Bool). cond b e (account_entered (kind_next e.memo) e)) h

-- and one of which none did
idle_ready : (e : Account) → acts e.memo ≡ false → ready_account e ≡ account_entered (kind_next e.memo) e
idle_ready e h = ap (λ (b : Bool). cond b e (account_entered (kind_next e.memo) e)) h

pub ready_acts : (e : Account) → acts (ready_account e).memo ≡ true
ready_acts e = go (acts e.memo) refl
  where
    go : (b : Bool) → acts e.memo ≡ b → acts (cond b e (account_entered (kind_next e.memo) e)).memo ≡ true
    go true h = h
    go false h = acts-entered (kind_next e.memo) e.memo

ready_part : (e : Account) → (ready_account e).memo.part ≡ e.memo.part
ready_part e = go (acts e.memo)
  where
    go : (b : Bool) → (cond b e (account_entered (kind_next e.memo) e)).memo.part ≡ e.memo.part
    go true = refl
    go false = refl

words_are : (a : State) (m : Move) → (moved a m).words ≡ words_by (turn_of m) a.words
words_are a (Word t) = refl
words_are a (Dies d) = refl
words_are a (Begins d k) = refl

-- ---- an identity on the way

module _ (maps : CommandMaps) (tells : Foretells command_control (λ a. a) command_effect command_by) (start : Start) (s : Scripted) (low : s.client < start.geometry.clients) where
  abbrev g : Geometry
  g = start.geometry

  abbrev c : ℕ
  c = s.client

  abbrev me : Me
  me = member g c

  -- what is accounted for of it is e, or that with the next agent begun
  abbrev pub Near : List Account → Account → Playing → Type 0
  Near es e x = (account_at es c ≡ e) ⊎ ((acts e.memo ≡ false) × (x.standing ≡ AtWork) × (account_at es c ≡ ready_account e))

  -- a state as a pool, to which these turns led
  abbrev pool_at : State → List Move → Pool
  pool_at a done = pool start a.words a.accounts done

  -- the agents x of the script stand at e, in a state of a run
  pub record IsAt (a : State) (e : Account) (x : Playing) : Type 0 where
    pub done : List Move
    pub run : IsRun (pool_at a done)
    pub stood : Stood start e
    pub stands : AgentsStand start s x e
    pub named : x.me ≡ member start.geometry s.client
    pub near : Near a.accounts e x

  near_as : (es fs : List Account) (e : Account) (x : Playing) → account_at fs c ≡ account_at es c → Near es e x → Near fs e x
  near_as es fs e x same (inl n) = inl (same ∙ n)
  near_as es fs e x same (inr n) = inr (n.0, n.1, same ∙ n.2)

  long : (a : State) (done : List Move) → IsRun (pool_at a done) → c < length a.accounts
  long a done run = subst (λ (n : ℕ). c < n) (sym run.held.accounts) low

  moved_run : (a : State) (done : List Move) → IsRun (pool_at a done) → (m : Move) → IsMove a m → Turned g a m → IsRun (pool_at (moved a m) (done ++ m ∷ []))
  moved_run a done run m move turned = record { held = turned.held; leads = Leads-more g (first_state start) done a m run.leads move turned }

  stood_now : (a : State) (done : List Move) → IsRun (pool_at a done) → Stood start (account_at a.accounts c)
  stood_now a done run = stood_in (pool_at a done) run c low

  -- where they have something to do, one of them acts or comes next
  at_work : (e : Account) (x : Playing) → AgentsStand start s x e → x.me ≡ me → (w : Work) → next_by me s e ≡ Some w → x.standing ≡ AtWork
  at_work e x stands named w next = elim (standing_cases x.standing) [
    | inl h ↦ h
    | inr n ↦ absurd (let z : ◌≡◌ {A = Option Work} None (Some w) = sym (stands_still start s x e stands n.1) ∙ (ap (λ (m : Me). next_by m s e) named ∙ next) in cc)
  ]

  acts_at_work : (e : Account) (x : Playing) → AgentsStand start s x e → acts e.memo ≡ true → x.standing ≡ AtWork
  acts_at_work e x stands acting = elim (standing_cases x.standing) [
    | inl h ↦ h
    | inr n ↦ absurd (true≢false (sym acting ∙ over_idle s x e (is_over start s x e stands.stage n.1)))
  ]

  -- the words hold the fold of the entries that have taken effect
  holds : (a : State) (e : Account) (x : Playing) → IsAt a e x → HoldsMap g a.words c (folded (effective s x) finmap.empty)
  holds a e x at =
      holds_map g a.words a.accounts at.run.held c low (ap is_loose part ∙ has_table start e at.stood at.stands.may.tables) (folded (effective s x) finmap.empty)
      (λ key. ap (λ (p : Part). map_in p key) part ∙ effective_fold maps start s x e at.stands at.stood key)
    where
      part : (memos_of a.accounts c).part ≡ e.memo.part
      part =
          elim at.near [
            | inl n ↦ ap (λ (z : Account). z.memo.part) n
            | inr n ↦ ap (λ (z : Account). z.memo.part) n.2 ∙ ready_part e
          ]

  -- ---- what is left to happen of a log

  module _ (all : List Entry) (end : End) where
    abbrev log : Logged
    log = record { client = c; entries = all; end = end }

    -- in these turns, from these words on, where the agents are x
    pub record IsLeft (ws : List ℕ) (x : Playing) (ms : List Move) : Type 0 where
      pub more : List Entry
      pub entries : all ≡ effective s x ++ more
      pub takes : (times : List (List ℕ)) → Saw start.geometry x.work times → TakesEffect start.geometry (record { client = s.client; entries = all; end = end }) (length (effective s x)) times ws (turns_of ms)

    held_fold : (a : State) (e : Account) (x : Playing) → IsAt a e x → (more : List Entry) → all ≡ effective s x ++ more → HoldsMap g a.words c (folded (take (length (effective s x)) all) finmap.empty)
    held_fold a e x at more entries =
        let front : take (length (effective s x)) all ≡ effective s x = ap (take (length (effective s x))) entries ∙ take_front (effective s x) more (length (effective s x)) refl in
        subst (λ (es : List Entry). HoldsMap g a.words c (folded es finmap.empty)) (sym front) (holds a e x at)

    module _ (a : State) (e : Account) (x : Playing) (at : IsAt a e x) where
      abbrev n : ℕ
      n = length (effective s x)

      -- a turn by which no entry takes effect
      quiet : (m : Move) (ms : List Move) (ws : List ℕ) → ws ≡ words_by (turn_of m) a.words → (y : Playing) → effective s y ≡ effective s x → ((times : List (List ℕ)) → Saw g x.work times → Saw g y.work (a.words ∷ times)) → IsLeft ws y ms → IsLeft a.words x (m ∷ ms)
      quiet m ms ws words y same saw left =
          let entries : all ≡ effective s x ++ left.more = left.entries ∙ ap (λ (es : List Entry). es ++ left.more) same in
          record {
            more = left.more;
            entries = entries;
            takes = λ times seen. (
              held_fold a e x at left.more entries,
              inl (subst (λ (vs : List ℕ). TakesEffect g log n (a.words ∷ times) vs (turns_of ms)) words
                  (subst (λ (es : List Entry). TakesEffect g log (length es) (a.words ∷ times) ws (turns_of ms)) same (left.takes (a.words ∷ times) (saw times seen)))),
            );
          }

      -- a word step by which one does
      rises : (t : Step) (ms : List Move) (ws : List ℕ) → ws ≡ words_by (turn_of (Word t)) a.words → t.me.who ≡ c → (y : Playing) (new : Entry) → effective s y ≡ effective s x ++ new ∷ [] → ((times : List (List ℕ)) → Saw g x.work times → Shows g c (a.words ∷ times) new) → Saw g y.work [] → IsLeft ws y ms → IsLeft a.words x (Word t ∷ ms)
      rises t ms ws words own y new more shows fresh left =
          let entries : all ≡ effective s x ++ (new ∷ left.more) = left.entries ∙ (ap (λ (es : List Entry). es ++ left.more) more ∙ append_assoc (effective s x) (new ∷ []) left.more) in
          let many : length (effective s y) ≡ n + 1 = ap (λ (es : List Entry). length es) more ∙ length-append (effective s x) (new ∷ []) in
          record {
            more = new ∷ left.more;
            entries = entries;
            takes = λ times seen.
                let w = shows times seen in (
                  held_fold a e x at (new ∷ left.more) entries,
                  inr (
                    record {
                      ask = t.ask;
                      own = ap (λ (k : ℕ). Steps k t.ask) own;
                      entry = new;
                      next = ap (λ (es : List Entry). slice_get es n) entries ∙ get_behind (effective s x) new left.more n refl;
                      time = w.0;
                      among = w.1;
                      shown = w.2;
                    },
                    subst (λ (vs : List ℕ). TakesEffect g log (n + 1) [] vs (turns_of ms)) words
                        (subst (λ (k : ℕ). TakesEffect g log k [] ws (turns_of ms)) many (left.takes [] fresh)),
                  ),
                );
          }

    -- ---- turns behind those of the script

    module _ (left : Account) (loose : is_loose left.memo.part ≡ false) (fold : (key : ℕ) → map_in left.memo.part key ≡ finmap.get (folded all finmap.empty) key) (b : State) where
      -- the words hold the fold of all entries, where the map is what it is in `left`
      held_all : (a : State) (done : List Move) → IsRun (pool_at a done) → SameTable left.memo (memos_of a.accounts c) → HoldsMap g a.words c (folded (take (length all) all) finmap.empty)
      held_all a done run same =
          subst (λ (es : List Entry). HoldsMap g a.words c (folded es finmap.empty)) (sym (take_all (length all) all (omega arith)))
          (holds_map g a.words a.accounts run.held c low (same.loose ∙ loose) (folded all finmap.empty) (λ key. same.map key ∙ fold key))

      -- while own turns leave the map as it was, no entry takes effect
      stays : (ms : List Move) (a : State) (done : List Move) → IsRun (pool_at a done) → SameTable left.memo (memos_of a.accounts c) → AreStill left.memo (account_at a.accounts c) (own_turns c ms) → Leads g a ms b → (times : List (List ℕ)) → TakesEffect start.geometry (record { client = s.client; entries = all; end = end }) (length all) times a.words (turns_of ms)
      stays [] a done run same still led times = (held_all a done run same, refl)
      stays (m ∷ ms) a done run same still led times =
          let made : IsRun (pool_at (moved a m) (done ++ m ∷ [])) = moved_run a done run m led.0 led.1 in
          let next : TakesEffect start.geometry (record { client = s.client; entries = all; end = end }) (length all) (a.words ∷ times) (moved a m).words (turns_of ms) =
          elim (cases_eq (taker m) c) [
            | inl o ↦ (
                let here : account_at (moved a m).accounts c ≡ account_by (account_at a.accounts c) m = turn_here a c m (long a done run) o in
                let both : AreStill left.memo (account_at a.accounts c) (m ∷ own_turns c ms) = subst (AreStill left.memo (account_at a.accounts c)) (own_first c m ms o) still in
                stays ms (moved a m) (done ++ m ∷ []) made (subst (λ (z : Account). SameTable left.memo z.memo) (sym here) both.0) (subst (λ (z : Account). AreStill left.memo z (own_turns c ms)) (sym here) both.1) led.2 (a.words ∷ times)
                )
            | inr n ↦ (
                let there : account_at (moved a m).accounts c ≡ account_at a.accounts c = turn_there a c m n in
                stays ms (moved a m) (done ++ m ∷ []) made (subst (λ (z : Account). SameTable left.memo z.memo) (sym there) same) (subst (λ (z : Account). AreStill left.memo z (own_turns c ms)) (sym there) (subst (AreStill left.memo (account_at a.accounts c)) (own_skip c m ms n) still)) led.2 (a.words ∷ times)
                )
          ] in (
            held_all a done run same,
            inl (subst (λ (vs : List ℕ). TakesEffect g log (length all) (a.words ∷ times) vs (turns_of ms)) (words_are a m) next),
          )

    -- ---- turns that the script gives

    module _ (left : Account) (none : next_by me s left ≡ None) (kept : List Move) (still : AreStill left.memo left kept) (ends : (x : Playing) → x.me ≡ me → IsOver s x left → all ≡ effective s x) (b : State) where
      -- the own ones among these turns are those that the script gives from the account e on, which lead to `left`, and then those behind them
      abbrev Own : Account → List Move → List Move → Type 0
      Own e ms own = (own_turns c ms ≡ own ++ kept) × AreGiven me s e own × (accounts_given e own ≡ left)

      abbrev Rest : List Move → Type 0
      Rest ms = (a : State) (e : Account) (x : Playing) → IsAt a e x → Leads g a ms b → (own : List Move) → Own e ms own → IsLeft a.words x ms

      -- none is left that the script gives
      module _ (a : State) (e : Account) (x : Playing) (at : IsAt a e x) (same : e ≡ left) where
        now : AgentsStand start s x left
        now = subst (AgentsStand start s x) same at.stands

        rests : x.standing ≢ AtWork
        rests here = let z = stands_now start s x left now here in absurd (let f : ◌≡◌ {A = Option Work} (Some x.work) None = sym z.next ∙ (ap (λ (m : Me). next_by m s left) at.named ∙ none) in cc)

        done_all : all ≡ effective s x
        done_all = ends x at.named (is_over start s x left now.stage rests)

        here_now : account_at a.accounts c ≡ left
        here_now = elim at.near [ inl n ↦ n ∙ same | inr n ↦ absurd (rests n.1) ]

        over : (ms : List Move) → own_turns c ms ≡ kept → Leads g a ms b → IsLeft a.words x ms
        over ms own run =
            let many : length (effective s x) ≡ length all = ap (λ (es : List Entry). length es) (sym done_all) in
            let loose : is_loose left.memo.part ≡ false = subst (λ (z : Account). is_loose z.memo.part ≡ false) same (has_table start e at.stood at.stands.may.tables) in
            let fold : (key : ℕ) → map_in left.memo.part key ≡ finmap.get (folded all finmap.empty) key =
            subst (λ (es : List Entry). (key : ℕ) → map_in left.memo.part key ≡ finmap.get (folded es finmap.empty) key) (sym done_all)
            (subst (λ (z : Account). (key : ℕ) → map_in z.memo.part key ≡ finmap.get (folded (effective s x) finmap.empty) key) same (λ key. effective_fold maps start s x e at.stands at.stood key)) in
            record {
              more = [];
              entries = done_all ∙ sym (append-nil (effective s x));
              takes = λ times seen. subst (λ (k : ℕ). TakesEffect start.geometry (record { client = s.client; entries = all; end = end }) k times a.words (turns_of ms)) (sym many)
                  (stays left loose fold b ms a at.done at.run (subst (λ (z : Account). SameTable left.memo z.memo) (sym here_now) (record { map = λ key. refl; loose = refl }))
                  (subst (λ (z : Account). AreStill left.memo z (own_turns c ms)) (sym here_now) (subst (AreStill left.memo left) (sym own) still)) run times);
            }

      -- ---- turns

      -- a turn of another identity
      other : (m : Move) (ms : List Move) → Rest ms → (a : State) (e : Account) (x : Playing) → IsAt a e x → IsMove a m → Turned g a m → Leads g (moved a m) ms b → (own : List Move) → Own e (m ∷ ms) own → taker m ≢ c → IsLeft a.words x (m ∷ ms)
      other m ms rest a e x at move turned run own gives n =
          quiet a e x at m ms (moved a m).words (words_are a m) x refl (λ times seen. saw_more g x.work a.words times seen)
          (rest (moved a m) e x (record { done = at.done ++ m ∷ []; run = moved_run a at.done at.run m move turned; stood = at.stood; stands = at.stands; named = at.named; near = near_as a.accounts (moved a m).accounts e x (turn_there a c m n) at.near }) run own (sym (own_skip c m ms n) ∙ gives.0, gives.1, gives.2))

      -- the beginning of an agent
      begins : (d : ℕ) (k : Kind) (ms : List Move) → Rest ms → (a : State) (e : Account) (x : Playing) → IsAt a e x → IsMove a (Begins d k) → Turned g a (Begins d k) → Leads g (moved a (Begins d k)) ms b → IsGiven me s e (Begins d k) → (own : List Move) → Own e ms own → d ≡ c → IsLeft a.words x (Begins d k ∷ ms)
      begins d k ms rest a e x at move turned run taken own gives o =
          quiet a e x at (Begins d k) ms a.words refl x refl (λ times seen. saw_more g x.work a.words times seen)
          (rest (moved a (Begins d k)) e x (record { done = at.done ++ Begins d k ∷ []; run = moved_run a at.done at.run (Begins d k) move turned; stood = at.stood; stands = at.stands; named = at.named; near = inr (taken.2, at_work e x at.stands at.named taken.0 taken.1, begun at.near) }) run own gives)
        where
          begun : Near a.accounts e x → account_at (changed (account_entered k) a.accounts d) c ≡ ready_account e
          begun (inl same) =
              turn_here a c (Begins d k) (long a at.done at.run) o
              ∙ (ap (account_entered k) same ∙ (ap (λ (z : Kind). account_entered z e) taken.3 ∙ sym (idle_ready e taken.2)))
          begun (inr h) =
              let acts_here : acts (memos_of a.accounts c) ≡ true = ap (λ (z : Account). acts z.memo) h.2 ∙ ready_acts e in
              absurd (true≢false (sym acts_here ∙ subst (λ (n : ℕ). acts (memos_of a.accounts n) ≡ false) o move.1))

      -- the death of one
      dies : (d : ℕ) (ms : List Move) → Rest ms → (a : State) (e : Account) (x : Playing) → IsAt a e x → IsMove a (Dies d) → Turned g a (Dies d) → Leads g (moved a (Dies d)) ms b → IsGiven me s e (Dies d) → (own : List Move) → Own (account_died e) ms own → d ≡ c → IsLeft a.words x (Dies d ∷ ms)
      dies d ms rest a e x at move turned run taken own gives o =
          let here : x.standing ≡ AtWork = acts_at_work e x at.stands taken.0 in
          let now = stands_now start s x e at.stands here in
          let is : IsSpent start s x e = record { stood = at.stood; stands = at.stands; here = here; spent = sym now.life ∙ taken.1 } in
          let f = fell maps start s x e is in
          let made = moved_run a at.done at.run (Dies d) move turned in
          let last : account_at (moved a (Dies d)).accounts c ≡ account_died e = turn_here a c (Dies d) (long a at.done at.run) o ∙ ap account_died (same (acting start s x e is) at.near) in
          quiet a e x at (Dies d) ms a.words refl f.after f.same (λ times seen. saw_more g f.after.work a.words times (f.saw times seen))
          (rest (moved a (Dies d)) (account_died e) f.after (record { done = at.done ++ Dies d ∷ []; run = made; stood = subst (Stood start) last (stood_now (moved a (Dies d)) (at.done ++ Dies d ∷ []) made); stands = f.stands; named = f.me ∙ at.named; near = inl last }) run own gives)
        where
          same : acts e.memo ≡ true → Near a.accounts e x → account_at a.accounts c ≡ e
          same h (inl n) = n
          same h (inr n) = absurd (true≢false (sym h ∙ n.0))

      -- a word step of the agent at work
      module _ (a : State) (e : Account) (x : Playing) (at : IsAt a e x) (here : x.standing ≡ AtWork) (some : 0 < x.life.left) where
        abbrev step : Step
        step = turn_on (pool_at a at.done) work_control x.work

        who : x.me.who ≡ c
        who = ap (λ (m : Me). m.who) at.named

        of : IsOf (pool_at a at.done) c work_control x.work
        of = subst (λ (k : ℕ). IsWorkOf start k work_control x.work) who (turning.is_of start s x e at.stands.may here at.stands.stage)

        step_who : step.me.who ≡ c
        step_who = ap (λ (m : Me). m.who) of.0

        word_step : (ms : List Move) → Rest ms → IsMove a (Word step) → Turned g a (Word step) → Leads g (moved a (Word step)) ms b → (own : List Move) → Own (account_after (ready_account e) step) ms own → IsLeft a.words x (Word step ∷ ms)
        word_step ms rest move turned run own gives =
            let made = moved_run a at.done at.run (Word step) move turned in
            let q : State = moved a (Word step) in
            let after : account_at q.accounts c ≡ account_after (ready_account e) step = turn_here a c (Word step) (long a at.done at.run) step_who ∙ ap (λ (z : Account). account_after z step) ready in
            let life : Life = record { left = x.life.left - 1 } in
            let turn = steps.turned maps tells start s x e at.stands at.stood here (account_at q.accounts c) step.seen after (stood_now q (at.done ++ Word step ∷ []) made) (named_in (pool_at q (at.done ++ Word step ∷ [])) made c low ∙ sym who) life (let z = some in omega arith) learns a.words a.accounts at.run.held (subst (λ (n : ℕ). memos_of a.accounts n ≡ (ready_account e).memo) (sym who) memo_is) in
            let left : IsLeft q.words turn.agents ms = rest q (account_at q.accounts c) turn.agents (record { done = at.done ++ Word step ∷ []; run = made; stood = stood_now q (at.done ++ Word step ∷ []) made; stands = turn.stands; named = turn.me ∙ at.named; near = inl refl }) run own (subst (λ (z : Account). Own z ms own) (sym after) gives) in
            elim turn.takes [
              | inl h ↦ quiet a e x at (Word step) ms q.words refl turn.agents h.0 h.1 left
              | inr h ↦ rises a e x at step ms q.words refl step_who turn.agents h.0 h.1 (λ times saw. subst (λ (k : ℕ). Shows g k (a.words ∷ times) h.0) who (h.2 times saw)) h.3 left
            ]
          where
            acts_here : acts (memos_of a.accounts c) ≡ true
            acts_here = subst (λ (k : ℕ). acts (memos_of a.accounts k) ≡ true) step_who move.1

            ready : account_at a.accounts c ≡ ready_account e
            ready =
                elim at.near [
                  | inl n ↦ n ∙ sym (acting_ready e (ap (λ (z : Account). acts z.memo) (sym n) ∙ acts_here))
                  | inr n ↦ n.2
                ]

            memo_is : memos_of a.accounts c ≡ (ready_account e).memo
            memo_is = ap (λ (z : Account). z.memo) ready

            learns : (r0 : Memo) → fits_now work_control WorkFits x.work r0 (ready_account e).memo → Outcome (work_control.turns x.work step.seen) (fits_now work_control WorkFits (work_control.after x.work step.seen) r0 (memos_of (moved a (Word step)).accounts c)) (gives_now WorkGives x.work r0 (memos_of (moved a (Word step)).accounts c))
            learns r0 f = learned work_control (fits_now work_control WorkFits) (gives_now WorkGives) keeps (pool_at a at.done) c x.work at.run of r0 (subst (fits_now work_control WorkFits x.work r0) (sym memo_is) f)

      -- a word step that the script gives is that one
      words : (t : Step) (ms : List Move) → Rest ms → (a : State) (e : Account) (x : Playing) → IsAt a e x → IsMove a (Word t) → Turned g a (Word t) → Leads g (moved a (Word t)) ms b → IsGiven me s e (Word t) → (own : List Move) → Own (account_after (ready_account e) t) ms own → IsLeft a.words x (Word t ∷ ms)
      words t ms rest a e x at move turned run taken own gives =
          let here : x.standing ≡ AtWork = at_work e x at.stands at.named taken.0 taken.1 in
          let now = stands_now start s x e at.stands here in
          let work : taken.0 ≡ x.work = same_some taken.0 x.work (sym taken.1 ∙ (sym (ap (λ (m : Me). next_by m s e) at.named) ∙ now.next)) in
          let some : 0 < x.life.left = subst (λ (n : ℕ). 0 < n) now.life taken.2 in
          let is : t ≡ step_of work_control x.work t.seen = taken.3 ∙ ap (λ (w : Work). step_of work_control w t.seen) work in
          let seen : t.seen ≡ (step a e x at here some).seen = move.0 ∙ ap (λ (k : Ask). seen_of k (slice_index a.words (at_of k))) (ap (λ (z : Step). z.ask) is) in
          let same : t ≡ step a e x at here some = is ∙ ap (λ (n : ℕ). step_of work_control x.work n) seen in
          subst (λ (z : Step). IsMove a (Word z) → Turned g a (Word z) → Leads g (moved a (Word z)) ms b → Own (account_after (ready_account e) z) ms own → IsLeft a.words x (Word z ∷ ms)) (sym same)
          (λ y z l. word_step a e x at here some ms rest y z l own) move turned run gives

      by_script : (m : Move) (ms : List Move) → Rest ms → (a : State) (e : Account) (x : Playing) → IsAt a e x → IsMove a m → Turned g a m → Leads g (moved a m) ms b → IsGiven me s e m → (own : List Move) → Own (account_given e m) ms own → taker m ≡ c → IsLeft a.words x (m ∷ ms)
      by_script (Word t) ms rest a e x at move turned run taken own gives o = words t ms rest a e x at move turned run taken own gives
      by_script (Dies d) ms rest a e x at move turned run taken own gives o = dies d ms rest a e x at move turned run taken own gives o
      by_script (Begins d k) ms rest a e x at move turned run taken own gives o = begins d k ms rest a e x at move turned run taken own gives o

      one : (m : Move) (ms : List Move) → Rest ms → (a : State) (e : Account) (x : Playing) → IsAt a e x → IsMove a m → Turned g a m → Leads g (moved a m) ms b → (own : List Move) → Own e (m ∷ ms) own → IsLeft a.words x (m ∷ ms)
      one m ms rest a e x at move turned run [] gives = over a e x at gives.2 (m ∷ ms) gives.0 (move, turned, run)
      one m ms rest a e x at move turned run (n ∷ own) gives =
          elim (cases_eq (taker m) c) [
            | inr z ↦ other m ms rest a e x at move turned run (n ∷ own) gives z
            | inl o ↦ (
                let both : m ∷ own_turns c ms ≡ n ∷ (own ++ kept) = sym (own_first c m ms o) ∙ gives.0 in
                let its : IsGiven me s e m × AreGiven me s (account_given e m) own × (accounts_given (account_given e m) own ≡ left) =
                subst (λ (z : Move). IsGiven me s e z × AreGiven me s (account_given e z) own × (accounts_given (account_given e z) own ≡ left)) (sym (first_same m n (own_turns c ms) (own ++ kept) both)) (gives.1.0, gives.1.1, gives.2) in
                by_script m ms rest a e x at move turned run its.0 own (rest_same m n (own_turns c ms) (own ++ kept) both, its.1, its.2) o
                )
          ]

      left_of : (ms : List Move) → Rest ms
      left_of [] a e x at run [] gives = over a e x at gives.2 [] gives.0 run
      left_of [] a e x at run (n ∷ own) gives = absurd (let z : ◌≡◌ {A = List Move} [] (n ∷ (own ++ kept)) = gives.0 in cc)
      left_of (m ∷ ms) a e x at run own gives = one m ms (left_of ms) a e x at run.0 run.1 run.2 own gives

      -- ---- from the first state on

      module _ (fits : GeometryFits start.geometry) (eras : EraFits start.first_era) (era : start.first_era < 2 ^ 46) (tables : start.tables ≡ true) (script : ScriptFits start.geometry.clients s) where
        abbrev fresh : Playing
        fresh =
            record {
              me = member g c;
              script = 0;
              agent = 0;
              work = join_work (member g c);
              life = record { left = slice_index (lives_of s.life) 0 };
              entries = [];
              room = length s.lines;
              end = None;
              standing = AtWork;
            }

        first_at : IsAt (first_state start) (first_account start c) fresh
        first_at =
            let run : IsRun (pool_at (first_state start) []) = first_run start fits eras in
            record {
              done = [];
              run = run;
              stood = subst (Stood start) (account_first start c low) (stood_now (first_state start) [] run);
              stands = record {
                may = record { geometry = fits; era = era; tables = tables; me = refl; who = low; client = refl; script = script; room = omega arith };
                stage = Fresh (record { account = refl; agent = refl; work = refl; entries = refl; life = first_life s.life; end = refl; here = refl });
                taken = record { turns = tt; made = refl };
              };
              named = refl;
              near = inl (account_first start c low);
            }

        pub takes_effect : (ms : List Move) → Leads g (first_state start) ms b → (own : List Move) → Own (first_account start c) ms own → TakesEffect start.geometry (record { client = s.client; entries = all; end = end }) 0 [] (first_words start) (turns_of ms)
        takes_effect ms run own gives = (left_of ms (first_state start) (first_account start c) fresh first_at run own gives).takes [] (λ m e b. absurd (cc))
