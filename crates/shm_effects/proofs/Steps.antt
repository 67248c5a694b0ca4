-- a word step of the agents of a script: one more entry takes effect, or none
use Rattle.std.proofs.Common.{◌≡◌, ℕ, suc, ◌+◌, ◌<◌, Bool, true, false, cond, List, [], ◌∷◌, ◌++◌, length, refl, sym, ap, ◌∙◌, subst, inl, inr, Result, arith}
use Rattle.std.proofs.lemmas.Option.{get_or_from_slice_get}
use Rattle.std.specs.{Prelude.{◌⊎◌, Option, Some, None, slice_get}, List.Contains}
use Rattle.std.specs.FinMap as finmap
use Rattle.shm_words.specs.declared.geometry.Geometry.{Geometry}
use Rattle.shm_graph.specs.declared.{ask.{Life.Life, Me.Me}, memo.Memo.Memo, run.{Account.Account, Start.Start}}
use Rattle.shm_graph.specs.{Agents.{acts, acts_by, last_agent}, Asks.{Trail, call_before}, Held.{HeldAt, is_loose}}
use Rattle.shm_graph.specs.{Laws.{Outcome, step_of}, Runs.{Held, Stood, account_after, account_entered, memos_of}}
use Rattle.shm_graph.specs.{Spots.see, Tells.after_all, Views.view, Whole.{fits_now, gives_now}}
use Rattle.kind_parts.specs.Reparting.{map_in}
use Rattle.plans.specs.{declared.or.Or.{Or, TheVariants.{First, Second}}, CallsControl.{calls_control, calls_of}}
use Rattle.plans.specs.{Deciding.Foretells, Either.or_control}
use Rattle.shm_count.specs.declared.answer.EraSpent.{EraSpent}
use Rattle.shm_plain.specs.{Tracks.kind_next, Working.ready_account}
use Rattle.shm_recover.specs.{Join.join_control, Leave.Control.{leave_parts, leave_steered}}
use Rattle.shm_recover.specs.Recover.Control.{recover_parts, recover_steered}
use Rattle.shm_script.specs.declared.{line.Line.{Line, TheVariants.Del}, log.{Answer.Answer, End.End, Entry.Entry}}
use Rattle.shm_script.specs.{Logged.folded, Values.Scripted}
use Rattle.shm_script.specs.declared.line.Line.TheVariants as line
use Rattle.shm_script.specs.declared.log.Answer.TheVariants as answer
use Rattle.shm_script.specs.declared.log.End.TheVariants as end
use Rattle.shm_table.specs.Command.{CommandGives, command_by, command_control, command_effect, command_of}
use Rattle.shm_table.specs.{declared.get.GetState.GetState, Get.Control.{GetCalls, getting, get_steered}}
use Rattle.shm_table.specs.{Machines.Get.get, Proved.Command.Laws.gets_give}
use Rattle.shm_agents.specs.declared.agents.Standing.{Standing, TheVariants.{AtWork, Dead, Gone}}
use Rattle.shm_agents.specs.Agents.{AgentsStand, IsPlaying, Playing, Stage, behind, shown_by}
use Rattle.shm_agents.specs.{Agents.Stage.{Fresh, Plays, Parted, Fallen, Mending, Mended}, Logs.with_effect}
use Rattle.shm_agents.specs.Work.{Work, WorkAnswer, WorkFits, WorkGives, commanding, leave_work, work_control}
use Rattle.shm_agents.proofs.{Dying.CommandMaps, Effects.{behind_none, behind_some}, Loose.has_table}
use Rattle.shm_agents.proofs.Trails.{after_first, after_second}
use Rattle.shm_agents.proofs.Turning as turning
use Rattle.shm_effects.specs.Effects.{HoldsAt, IsShown}
use Rattle.shm_effects.proofs.Entries.{effective, effective_fold, entries_by, line_next, when_ended, when_going}
use Rattle.shm_effects.proofs.Gets.{a_get, along_same, behind_get, behind_shows, first_shows, first_work, get_after, get_along, get_fits, get_in, get_none, get_some, is_get, leave_shows, not_first, not_leave, shown_answers, shown_stays}
use Rattle.shm_effects.proofs.{Maps.holds_at, Reading.{IsBack, came_back, ends_back, giving_author, giving_maps}}

-- ---- what was seen

-- where a get has given back its latch, the words held at one of these times what it found
abbrev pub Saw : Geometry → Work → List (List ℕ) → Type 0
Saw g w times = (m : GetCalls) → get_in w ≡ Some m → IsBack m → (t : List ℕ) × Contains times t × HoldsAt g t m.plan.author m.plan.key (Some (m.plan.number, m.plan.block))

-- and at one of them they showed what an entry of c says
abbrev pub Shows : Geometry → ℕ → List (List ℕ) → Entry → Type 0
Shows g c times a = (t : List ℕ) × Contains times t × IsShown g c a.line a.answer t

pub at_head : {A : Type 0} (x : A) (xs : List A) → Contains (x ∷ xs) x
at_head x xs = (0, omega arith, refl)

pub in_tail : {A : Type 0} (y : A) (xs : List A) (x : A) → Contains xs x → Contains (y ∷ xs) x
in_tail y xs x h = (suc h.0, (let l = h.1 in omega arith), h.2)

pub saw_more : (g : Geometry) (w : Work) (ws : List ℕ) (times : List (List ℕ)) → Saw g w times → Saw g w (ws ∷ times)
saw_more g w ws times h m e b = let t = h m e b in (t.0, in_tail ws times t.0 t.1, t.2)

-- what comes next has seen nothing
pub behind_saw : (g : Geometry) (me : Me) (ls : List Line) (k : ℕ) (times : List (List ℕ)) → Saw g (behind me ls k) times
behind_saw g me ls k times m e b = absurd (behind_get me ls k m e b)

-- the agents y after the turn, where they were x before it and the words ws
abbrev pub Takes : Geometry → Scripted → List ℕ → Playing → Playing → Type 0
Takes g s ws x y =
    ((effective s y ≡ effective s x) × ((times : List (List ℕ)) → Saw g x.work times → Saw g y.work (ws ∷ times)))
    ⊎ ((a : Entry) × (effective s y ≡ effective s x ++ a ∷ []) × ((times : List (List ℕ)) → Saw g x.work times → Shows g x.me.who (ws ∷ times) a) × Saw g y.work [])

shown_none : (es : List Entry) (l : Line) (o : Option Answer) → o ≡ None → with_effect es l o ≡ es
shown_none es l o e = ap (with_effect es l) e

-- where neither shows an answer
quiet : (s : Scripted) (x y : Playing) (o : Option End) → y.entries ≡ x.entries → shown_by x.work ≡ None → shown_by y.work ≡ None → entries_by o s y ≡ entries_by o s x
quiet s x y None same sx sy = shown_none y.entries (line_next s y) (shown_by y.work) sy ∙ (same ∙ sym (shown_none x.entries (line_next s x) (shown_by x.work) sx))
quiet s x y (Some e) same sx sy = same

-- one that is at work isn't gone
not_gone : (z : Standing) {A : Type 0} → z ≡ AtWork → z ≡ Gone → A
not_gone z here gone = let e : AtWork ≡ Gone = sym here ∙ gone in absurd (cc)

not_ended : (o : Option End) {A : Type 0} (e : End) → o ≡ None → o ≡ Some e → A
not_ended o e none some = absurd (cc)

module _ (maps : CommandMaps) (tells : Foretells command_control (λ a. a) command_effect command_by) (start : Start) (s : Scripted) (x : Playing) (e : Account) (h : AgentsStand start s x e) (stood : Stood start e) (here : x.standing ≡ AtWork) where
  abbrev c : ℕ
  c = x.me.who

  abbrev g : Geometry
  g = start.geometry

  abbrev many : ℕ
  many = length x.entries

  abbrev e1 : Account
  e1 = ready_account e

  -- ---- the client at work

  module _ (p : IsPlaying s x e) where
    abbrev trail : Trail
    trail = call_before (work_control.fresh x.work) e.memo.call

    -- at a command
    in_command : (l : Line) → slice_get s.lines many ≡ Some l → x.work ≡ Second (First (after_all command_control (command_of x.me l) trail))
    in_command l is =
        sym p.course
        ∙ (ap (λ (z : Work). after_all work_control z trail) (behind_some x.me s.lines many l is)
        ∙ (after_second (or_control join_control (calls_control recover_parts recover_steered)) (or_control command_control (calls_control leave_parts leave_steered)) (First (command_of x.me l)) trail
        ∙ ap Second (after_first command_control (calls_control leave_parts leave_steered) (command_of x.me l) trail)))

    -- at its leaving
    in_leaving : slice_get s.lines many ≡ None → (m : _) × (x.work ≡ Second (Second m))
    in_leaving none = go (behind_none x.me s.lines many none)
      where
        go : behind x.me s.lines many ≡ leave_work x.me → (m : _) × (x.work ≡ Second (Second m))
        go e = (
          _,
          sym p.course
              ∙ (ap (λ (z : Work). after_all work_control z trail) e
              ∙ (after_second (or_control join_control (calls_control recover_parts recover_steered)) (or_control command_control (calls_control leave_parts leave_steered)) _ trail
              ∙ ap Second (after_second command_control (calls_control leave_parts leave_steered) _ trail))),
        )

    -- at a get
    abbrev reading : ℕ → ℕ → GetCalls
    reading author key = after_all get (calls_of get_steered (getting x.me author key)) trail

    in_get : (author key : ℕ) → slice_get s.lines many ≡ Some (line.Get author key) → x.work ≡ a_get (reading author key)
    in_get author key is = in_command (line.Get author key) is ∙ ap (λ z. Second (First z)) (get_along (calls_of get_steered (getting x.me author key)) trail)

    next_is : (l : Line) → slice_get s.lines many ≡ Some l → line_next s x ≡ l
    next_is l is = get_or_from_slice_get s.lines many l (Del 0) is

    acting : e1 ≡ e
    acting = ap (λ (b : Bool). cond b e (account_entered (kind_next e.memo) e)) (ap (λ xs. acts_by (last_agent xs)) p.agents)

  -- ---- the word step

  module _ (last : Account) (n : ℕ) (after : last ≡ account_after e1 (step_of work_control x.work n)) (now : Stood start last) (named : last.who ≡ c) (life : Life) (spent : life.left + 1 ≡ x.life.left)
      (learns : (r0 : Memo) → fits_now work_control WorkFits x.work r0 e1.memo → Outcome (work_control.turns x.work n) (fits_now work_control WorkFits (work_control.after x.work n) r0 last.memo) (gives_now WorkGives x.work r0 last.memo))
      (ws : List ℕ) (es : List Account) (held : Held g ws es) (memo : memos_of es c ≡ e1.memo) where
    abbrev next : Work
    next = work_control.after x.work n

    abbrev Taken : Playing → Type 0
    Taken = Takes g s ws x

    tables : (a : ℕ) → a < g.clients → is_loose (memos_of es a).part ≡ false
    tables a l = held.at.parts a c l h.may.who ∙ (ap (λ (m : Memo). is_loose m.part) memo ∙ (go (acts e.memo) ∙ has_table start e stood h.may.tables))
      where
        go : (b : Bool) → is_loose (cond b e (account_entered (kind_next e.memo) e)).memo.part ≡ is_loose e.memo.part
        go true = refl
        go false = refl

    -- ---- a get that gives back its latch

    gives_back : (m : GetCalls) → x.work ≡ a_get m → work_control.turns x.work n ≡ None → IsBack (get.after m n) → HoldsAt g ws (get.after m n).plan.author (get.after m n).plan.key (Some ((get.after m n).plan.number, (get.after m n).plan.block))
    gives_back m is none b =
        let (r0, f) = turning.fits start s x e h.may here h.stage in
        let tr : Trail = call_before (work_control.fresh x.work) e1.memo.call in
        let fit = get_fits m r0 e1.memo tr (subst (λ (w : Work). WorkFits w r0 e1.memo tr) is f) in
        let me : m.plan.me ≡ record { geometry = g; who = c } = sym (ap (λ (w : Work). work_control.me w) is) ∙ (turning.is_of start s x e h.may here h.stage).0 in
        let (giving, same) = came_back m n (get_none m n (sym (ap (λ (w : Work). work_control.turns w n) is) ∙ none)) b in
        let few : m.plan.author < g.clients = subst (λ (z : Me). m.plan.author < z.geometry.clients) me (giving_author m r0 e1.memo tr fit giving) in
        let map : map_in (memos_of es m.plan.author).part m.plan.key ≡ Some (m.plan.number, m.plan.block) =
        giving_maps m r0 e1.memo tr fit giving (see g ws) (memos_of es) (subst (λ (z : Me). HeldAt z.geometry (see g ws) (view (memos_of es))) (sym me) held.at) (subst (λ (z : Me). memos_of es z.who ≡ e1.memo) (sym me) memo) in
        subst (λ (q : GetState). HoldsAt g ws q.author q.key (Some (q.number, q.block))) (sym same) (holds_at g ws es held m.plan.author few (tables m.plan.author few) m.plan.key (Some (m.plan.number, m.plan.block)) map)

    saw_after : work_control.turns x.work n ≡ None → (times : List (List ℕ)) → Saw g next (ws ∷ times)
    saw_after none times k e b =
        let a = get_after x.work n k e in
        let at : HoldsAt g ws (get.after a.0 n).plan.author (get.after a.0 n).plan.key (Some ((get.after a.0 n).plan.number, (get.after a.0 n).plan.block)) = gives_back a.0 a.1 none (subst IsBack (sym a.2) b) in
        (ws, at_head ws times, subst (λ (m : GetCalls). HoldsAt g ws m.plan.author m.plan.key (Some (m.plan.number, m.plan.block))) a.2 at)

    -- a work that answers otherwise isn't a get
    saw_first : (a : Or (Unit {0}) (Result (Unit {0}) EraSpent)) → work_control.turns x.work n ≡ Some (First a) → (times : List (List ℕ)) → Saw g next times
    saw_first a some times k e b = let m = get_after x.work n k e in absurd (not_first m.0 n a (sym (ap (λ (w : Work). work_control.turns w n) m.1) ∙ some))

    saw_leave : (a : Result (Unit {0}) EraSpent) → work_control.turns x.work n ≡ Some (Second (Second a)) → (times : List (List ℕ)) → Saw g next times
    saw_leave a some times k e b = let m = get_after x.work n k e in absurd (not_leave m.0 n a (sym (ap (λ (w : Work). work_control.turns w n) m.1) ∙ some))

    -- ---- it goes on

    -- the command of a line that comes to show its answer is no get
    shows_now : (p : IsPlaying s x e) (l : Line) → slice_get s.lines many ≡ Some l → (a : Answer) → shown_by next ≡ Some a → IsShown g c l a ws
    shows_now p (line.Get author key) is a shown =
        absurd (let z : None ≡ Some a = sym (ap (λ (w : Work). shown_by (work_control.after w n)) (in_get p author key is)) ∙ shown in cc)
    shows_now p (line.Put key k) is a shown = tt
    shows_now p (line.Copy key k other) is a shown = tt
    shows_now p (line.Del key) is a shown = tt
    shows_now p (line.Send i key) is a shown = tt
    shows_now p (line.Recv i key) is a shown = tt

    abbrev on : Playing
    on = record x { work = next; life = life }

    goes_plays : work_control.turns x.work n ≡ None → IsPlaying s x e → Taken on
    goes_plays none p = by (shown_by x.work) (shown_by next) refl refl
      where
        old : (o : Option Answer) → shown_by x.work ≡ o → effective s x ≡ with_effect x.entries (line_next s x) o
        old o is = when_going s x p.end ∙ ap (with_effect x.entries (line_next s x)) is

        new : (o : Option Answer) → shown_by next ≡ o → effective s on ≡ with_effect x.entries (line_next s x) o
        new o is = when_going s on p.end ∙ ap (with_effect x.entries (line_next s x)) is

        rises : (a : Answer) → shown_by x.work ≡ None → shown_by next ≡ Some a → (o : Option Line) → slice_get s.lines many ≡ o → Taken on
        rises a first then (Some l) is =
            inr (
              record { line = line_next s x; answer = a },
              new (Some a) then ∙ ap (λ (es : List Entry). es ++ record { line = line_next s x; answer = a } ∷ []) (sym (old None first)),
              λ times saw. (ws, at_head ws times, subst (λ (z : Line). IsShown g c z a ws) (sym (next_is p l is)) (shows_now p l is a then)),
              λ k f b. absurd (let z : None ≡ Some a = sym (ap shown_by (is_get next k f)) ∙ then in cc),
            )
        rises a first then None is = absurd (let m = in_leaving p is in let z : None ≡ Some a = sym (ap (λ (w : Work). shown_by (work_control.after w n)) m.1) ∙ then in cc)

        by : (o q : Option Answer) → shown_by x.work ≡ o → shown_by next ≡ q → Taken on
        by None None f t = inl (new None t ∙ sym (old None f), λ times saw. saw_after none times)
        by None (Some a) f t = rises a f t (slice_get s.lines many) refl
        by (Some a) q f t = inl (new (Some a) (shown_stays tells x.work n a f none) ∙ sym (old (Some a) f), λ times saw. saw_after none times)

    goes_ended : work_control.turns x.work n ≡ None → (z : End) → x.end ≡ Some z → Taken on
    goes_ended none z is = inl (when_ended s on z is ∙ sym (when_ended s x z is), λ times saw. saw_after none times)

    goes : work_control.turns x.work n ≡ None → Taken on
    goes none = go h.stage
      where
        go : Stage start s x e → Taken on
        go (Fresh f) = absurd (let z = sym none ∙ ap (λ (w : Work). work_control.turns w n) f.work in cc)
        go (Plays p) = goes_plays none p
        go (Parted p) = not_gone x.standing here p.left
        go (Fallen f l) = goes_ended none l.end l.ended
        go (Mending f l) = goes_ended none l.end l.ended
        go (Mended f l) = not_gone x.standing here f.recovered

    -- ---- a command answers

    playing_here : (a : Answer) → work_control.turns x.work n ≡ Some (Second (First a)) → IsPlaying s x e
    playing_here a some = go h.stage
      where
        go : Stage start s x e → IsPlaying s x e
        go (Fresh f) = absurd (first_work x.work (_, f.work) n (First a) some)
        go (Plays p) = p
        go (Parted p) = not_gone x.standing here p.left
        go (Fallen f l) = elim f.next [
          | inl d ↦ absurd (let z : AtWork ≡ Dead = sym here ∙ d.0 in cc)
          | inr w ↦ absurd (first_work x.work (_, w.2) n (First a) some)
        ]
        go (Mending f l) = absurd (first_work x.work (_, sym f.course ∙ after_first (or_control join_control (calls_control recover_parts recover_steered)) (or_control command_control (calls_control leave_parts leave_steered)) _ e.memo.call) n (First a) some)
        go (Mended f l) = not_gone x.standing here f.recovered

    module _ (a : Answer) (some : work_control.turns x.work n ≡ Some (Second (First a))) (l : Line) (is : slice_get s.lines many ≡ Some l) where
      abbrev p : IsPlaying s x e
      p = playing_here a some

      abbrev more : List Entry
      more = x.entries ++ record { line = l; answer = a } ∷ []

      abbrev done : Playing
      done = record x { entries = more; work = behind x.me s.lines (length more); life = life }

      -- what a get answered
      found : (author key k v : ℕ) → l ≡ line.Get author key → a ≡ answer.Value k v → (times : List (List ℕ)) → Saw g x.work times → (t : List ℕ) × Contains times t × HoldsAt g t author key (Some (k, v))
      found author key k v is_l is_a times saw =
          let m : GetCalls = reading p author key in
          let work : x.work ≡ a_get m = in_get p author key (is ∙ ap (λ (z : Line). Some z) is_l) in
          let gave : work_control.turns (a_get m) n ≡ Some (Second (First (answer.Value k v))) = sym (ap (λ (w : Work). work_control.turns w n) work) ∙ (some ∙ ap (λ (z : Answer). Some (Second (First z))) is_a) in
          let (back, number, block) = ends_back m n k v (get_some m n (answer.Value k v) gave) in
          let (t, among, at) = saw m (ap get_in work) back in
          let (by, of) = along_same (calls_of get_steered (getting x.me author key)) (trail p) in (
            t,
            among,
            subst (λ (z : ℕ). HoldsAt g t z key (Some (k, v))) by (subst (λ (z : ℕ). HoldsAt g t m.plan.author z (Some (k, v))) of (subst (λ (z : ℕ). HoldsAt g t m.plan.author m.plan.key (Some (z, v))) number (subst (λ (z : ℕ). HoldsAt g t m.plan.author m.plan.key (Some (m.plan.number, z))) block at))),
          )

      -- and what one of the own table didn't find
      missed : (author key : ℕ) → l ≡ line.Get author key → a ≡ answer.Missing → effective s x ≡ x.entries → author ≡ c → HoldsAt g ws author key None
      missed author key is_l is_a none own =
          let tr : Trail = last.memo.call in
          let fit : fits_now work_control WorkFits x.work p.start e1.memo = subst (λ (z : Account). fits_now work_control WorkFits x.work p.start z.memo) (sym (acting p)) p.fits in
          let gives : WorkGives x.work p.start last.memo tr (Second (First a)) = subst (λ z. Outcome z (fits_now work_control WorkFits next p.start last.memo) (gives_now WorkGives x.work p.start last.memo)) some (learns p.start fit) in
          let made : WorkGives (commanding x.me l) p.start last.memo tr (Second (First a)) = subst (λ (w : Work). WorkGives w p.start last.memo tr (Second (First a))) (behind_some x.me s.lines many l is) (p.gave last.memo tr (Second (First a)) gives) in
          let command : CommandGives (command_of x.me (line.Get author key)) p.start last.memo tr answer.Missing = subst (λ (z : Answer). CommandGives (command_of x.me (line.Get author key)) p.start last.memo tr z) is_a (subst (λ (z : Line). CommandGives (command_of x.me z) p.start last.memo tr a) is_l made) in
          let absent : map_in p.start.part key ≡ None = (gets_give x.me author key p.start last.memo tr answer.Missing command).leaves.absent own in
          let old : map_in e.memo.part key ≡ finmap.get (folded x.entries finmap.empty) key = subst (λ (zs : List Entry). map_in e.memo.part key ≡ finmap.get (folded zs finmap.empty) key) none (effective_fold maps start s x e h stood key) in
          let here : map_in (memos_of es c).part key ≡ None = ap (λ (m : Memo). map_in m.part key) (memo ∙ ap (λ (z : Account). z.memo) (acting p)) ∙ (old ∙ (sym (p.ready.fold key) ∙ absent)) in
          subst (λ (z : ℕ). HoldsAt g ws z key None) (sym own) (holds_at g ws es held c h.may.who (tables c h.may.who) key None here)

      abbrev Says : List (List ℕ) → Line → Answer → Type 0
      Says times k b = Shows g c (ws ∷ times) (record { line = k; answer = b })

      says : effective s x ≡ x.entries → (times : List (List ℕ)) → Saw g x.work times → Shows g c (ws ∷ times) (record { line = l; answer = a })
      says none times saw = go l refl a refl
        where
          trivially : (k : Line) (b : Answer) → IsShown g c k b ws → Says times k b
          trivially k b shown = (ws, at_head ws times, shown)

          got : (author key : ℕ) → l ≡ line.Get author key → (b : Answer) → a ≡ b → Says times (line.Get author key) b
          got author key f (answer.Value k v) q = let t = found author key k v f q times saw in (t.0, in_tail ws times t.0 t.1, t.2)
          got author key f answer.Missing q = trivially (line.Get author key) answer.Missing (missed author key f q none)
          got author key f b q = trivially (line.Get author key) b tt

          go : (k : Line) → l ≡ k → (b : Answer) → a ≡ b → Says times k b
          go (line.Get author key) f b q = got author key f b q
          go (line.Put key k) f b q = trivially (line.Put key k) b tt
          go (line.Copy key k other) f b q = trivially (line.Copy key k other) b tt
          go (line.Del key) f b q = trivially (line.Del key) b tt
          go (line.Send i key) f b q = trivially (line.Send i key) b tt
          go (line.Recv i key) f b q = trivially (line.Recv i key) b tt

      new : effective s done ≡ more
      new = when_going s done p.end ∙ shown_none more (line_next s done) (shown_by done.work) (behind_shows x.me s.lines (length more))

      answers : Taken done
      answers = by (shown_by x.work) refl
        where
          by : (o : Option Answer) → shown_by x.work ≡ o → Taken done
          by None f =
              let old : effective s x ≡ x.entries = when_going s x p.end ∙ shown_none x.entries (line_next s x) (shown_by x.work) f in
              inr (
                record { line = l; answer = a },
                new ∙ ap (λ (zs : List Entry). zs ++ record { line = l; answer = a } ∷ []) (sym old),
                says old,
                behind_saw g x.me s.lines (length more) [],
              )
          by (Some b) f =
              let old : effective s x ≡ x.entries ++ record { line = line_next s x; answer = b } ∷ [] = when_going s x p.end ∙ ap (with_effect x.entries (line_next s x)) f in
              let same : a ≡ b = shown_answers tells x.work n a b f some in
              inl (
                new ∙ (ap (λ (k : Line). x.entries ++ record { line = k; answer = a } ∷ []) (sym (next_is p l is)) ∙ (ap (λ (z : Answer). x.entries ++ record { line = line_next s x; answer = z } ∷ []) same ∙ sym old)),
                λ times saw. behind_saw g x.me s.lines (length more) (ws ∷ times),
              )

    -- ---- the turn

    -- the agents after it
    pub record Turned : Type 0 where
      pub agents : Playing
      pub stands : AgentsStand start s agents last
      pub me : agents.me ≡ x.me
      pub script : agents.script ≡ x.script
      pub takes : Takes g s ws x agents

    pub turned : Turned
    turned = go (work_control.turns x.work n) refl
      where
        parts : (o : Option End) (a : Result (Unit {0}) EraSpent) → work_control.turns x.work n ≡ Some (Second (Second a)) → entries_by o s x ≡ x.entries
        parts None a some = shown_none x.entries (line_next s x) (shown_by x.work) (leave_shows x.work n a some)
        parts (Some z) a some = refl

        go : (o : Option WorkAnswer) → work_control.turns x.work n ≡ o → Turned
        go None none =
            record {
              agents = on;
              stands = turning.went_on start s x e h.may here h.stage h.taken last n after now named life spent learns none;
              me = refl;
              script = refl;
              takes = goes none;
            }
        go (Some (First (First a))) some =
            let y : Playing = record x { work = behind x.me s.lines many; life = life } in
            record {
              agents = y;
              stands = turning.began start s x e h.may here h.stage h.taken last n after now named life spent learns a some;
              me = refl;
              script = refl;
              takes = inl (quiet s x y x.end refl (first_shows x.work n (First a) some).0 (behind_shows x.me s.lines many), λ times saw. behind_saw g x.me s.lines many (ws ∷ times));
            }
        go (Some (First (Second a))) some =
            let y : Playing = record x { work = next; life = life; standing = Gone } in
            let shows = first_shows x.work n (Second a) some in
            record {
              agents = y;
              stands = (turning.recovered start s x e h.may here h.stage h.taken last n after now named life spent learns a some).1;
              me = refl;
              script = refl;
              takes = inl (quiet s x y x.end refl shows.0 shows.1, λ times saw. saw_first (Second a) some (ws ∷ times));
            }
        go (Some (Second (First a))) some =
            let (l, is, stands) = turning.answered start s x e h.may here h.stage h.taken last n after now named life spent learns a some in
            record {
              agents = done a some l is;
              stands = stands;
              me = refl;
              script = refl;
              takes = answers a some l is;
            }
        go (Some (Second (Second a))) some =
            let y : Playing = record x { work = next; life = life; end = Some end.Ended; standing = Gone } in
            record {
              agents = y;
              stands = (turning.parted start s x e h.may here h.stage h.taken last n after now named life spent learns a some).1;
              me = refl;
              script = refl;
              takes = inl (sym (parts x.end a some), λ times saw. saw_leave a some (ws ∷ times));
            }
