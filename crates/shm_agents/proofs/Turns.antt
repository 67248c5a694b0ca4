-- a turn of the agents that stand in a pool, by what a word step says
use Rattle.std.proofs.Common.{◌≡◌, ℕ, ◌+◌, ◌<◌, ◌≤◌, true, false, List, [], ◌∷◌, ◌++◌, length, refl, sym, ap, ◌∙◌, subst, Result, arith}
use Rattle.std.proofs.lemmas.Option.{slice_get_within}
use Rattle.std.specs.{Prelude.{Option, Some, None, Ok, drop, slice_get}, Result.IsOk}
use Rattle.shm_words.specs.{declared.geometry.Geometry.Geometry, Layout.GeometryFits}
use Rattle.shm_graph.specs.declared.{ask.{Life.Life, Turn.{Turn, TheVariants.{More, Done}}}, memo.Memo.Memo}
use Rattle.shm_graph.specs.{declared.{memo.Step.Step, run.{Account.Account, Start.Start}}, Laws.{is_died, turn_of}}
use Rattle.shm_graph.specs.{Runs.Stood, Whole.{fits_now, gives_now}}
use Rattle.shm_graph.specs.Laws as laws
use Rattle.shm_plain.specs.Working.{IsWorkOf, MayWork, Worked, ready_account}
use Rattle.shm_plain.proofs.Calling.{answered_is, lives}
use Rattle.plans.specs.declared.or.Or.TheVariants.{First, Second}
use Rattle.shm_count.specs.declared.answer.EraSpent.{EraSpent}
use Rattle.shm_script.specs.{declared.{line.Line.Line, log.Answer.Answer}, Ranges.LineFits, Values.Scripted}
use Rattle.shm_script.specs.declared.log.End.TheVariants as end
use Rattle.shm_table.specs.Command.{LineMayStand}
use Rattle.shm_agents.specs.declared.agents.Standing.{Standing, TheVariants.{AtWork, Gone, Dead}}
use Rattle.shm_agents.specs.{Agents.{Playing, AgentsStand, behind}, Rows.{HasGoneOn, MayGoOn}}
use Rattle.shm_agents.specs.{TurnsLeft.{turns_at, turns_by, turns_given, turns_of}, Turns.lives_of}
use Rattle.shm_agents.specs.Work.{Work, WorkAnswer, WorkFits, WorkGives, work_control}
use Rattle.shm_agents.proofs.{Given.given_worked, WorkLaws.{line_fits, may_stand}}
use Rattle.shm_agents.proofs.Turning as turning

-- ---- the turns that are left

at_most : (z : Standing) (n : ℕ) → turns_at z n ≤ n
at_most AtWork n = omega arith
at_most Gone n = omega arith
at_most Dead n = omega arith

-- they are fewer where an agent has fewer word steps left, whatever is left of the agents
pub fewer : (s : Scripted) (x y : Playing) → x.standing ≡ AtWork → y.agent ≡ x.agent → y.life.left < x.life.left → turns_by y (Some s) < turns_by x (Some s)
fewer s x y here agent spent =
    let rest : ℕ → ℕ = λ k. turns_of (drop (k + 1) (lives_of s.life)) in
    let most = at_most y.standing (y.life.left + 1 + rest y.agent) in
    let same : rest y.agent ≡ rest x.agent = ap rest agent in
    let all : turns_by x (Some s) ≡ x.life.left + 1 + rest x.agent = ap (λ (z : Standing). turns_at z (x.life.left + 1 + rest x.agent)) here in
    omega arith

-- ---- a turn

-- before it: the agents are `now`, and x are their fields
pub record Before (start : Start) (s : Scripted) (now x : Playing) (e : Account) : Type 0 where
  pub stood : Stood start e
  pub named : e.who ≡ now.me.who
  pub is : x ≡ now
  pub stands : AgentsStand start s now e
  pub here : now.standing ≡ AtWork

-- what the word step says of the account, the work and the life that it left, and of what it answered
pub record After (start : Start) (x : Playing) (e e2 : Account) (w : Work) (life : Life) (u : Turn WorkAnswer) : Type 0 where
  pub died : is_died u ≡ true → x.life.left ≡ 0
  pub some : x.life.left ≡ 0 → is_died u ≡ true
  pub stays : is_died u ≡ true → (e2 ≡ e) × (w ≡ x.work) × (life ≡ x.life)
  pub turn : 0 < x.life.left → (life.left + 1 ≡ x.life.left) × Worked work_control (fits_now work_control WorkFits) (gives_now WorkGives) x.work e e2 u w
  pub stood : Stood start e2
  pub named : e2.who ≡ x.me.who

-- what is accounted for by number, before it and after it
pub before : {start : Start} {s : Scripted} {now x : Playing} (acc : ℕ → Account) → Stood start (acc now.me.who) → (acc now.me.who).who ≡ now.me.who → x ≡ now → AgentsStand start s now (acc now.me.who) → now.standing ≡ AtWork → Before start s now x (acc x.me.who)
before {start} {s} {now} {x} acc stood named is stands here =
    subst (λ (k : ℕ). Before start s now x (acc k)) (sym (ap (λ (z : Playing). z.me.who) is)) (record { stood = stood; named = named; is = is; stands = stands; here = here })

-- they stand in the pool as it is after it, by the number before it
pub finally : {start start2 : Start} {s : Scripted} {now x : Playing} (acc2 : ℕ → Account) → start2 ≡ start → x ≡ now → {y : Playing} → AgentsStand start s y (acc2 x.me.who) → AgentsStand start2 s y (acc2 now.me.who)
finally {start} {start2} {s} {now} {x} acc2 same is {y} h = subst (λ (z : Start). AgentsStand z s y (acc2 now.me.who)) (sym same) (subst (λ (z : Playing). AgentsStand start s y (acc2 z.me.who)) is h)

pub stepped_on : {now x : Playing} → x ≡ now → (S : Step → Type 0) → (0 < x.life.left → (n : ℕ) × S (laws.step_of work_control x.work n)) → 0 < now.life.left → (n : ℕ) × S (laws.step_of work_control now.work n)
stepped_on is S h = subst (λ (z : Playing). 0 < z.life.left → (n : ℕ) × S (laws.step_of work_control z.work n)) is h

-- what was given to them, by the number before it
pub given_on : {now x : Playing} → x ≡ now → (acc acc2 : ℕ → Account) → turns_given (acc2 x.me.who) ≡ turns_given (acc x.me.who) + 1 → turns_given (acc2 now.me.who) ≡ turns_given (acc now.me.who) + 1
given_on is acc acc2 h = subst (λ (z : Playing). turns_given (acc2 z.me.who) ≡ turns_given (acc z.me.who) + 1) is h

none_on : {A : Type 0} (o : Option A) → More ≡ turn_of o → o ≡ None
none_on None e = refl
none_on (Some a) e = absurd (cc)

module _ {start : Start} {s : Scripted} {now x : Playing} {e : Account} (b : Before start s now x e) where
  pub stood : AgentsStand start s x e
  stood = subst (λ (z : Playing). AgentsStand start s z e) (sym b.is) b.stands

  pub here : x.standing ≡ AtWork
  here = ap (λ (z : Playing). z.standing) b.is ∙ b.here

  -- what it needs
  pub step_of : IsWorkOf start x.me.who work_control x.work
  step_of = turning.is_of start s x e stood.may here stood.stage

  pub step_may : MayWork e
  step_may = turning.may_step start s x e stood.may here stood.stage

  pub step_fits : (r0 : Memo) × fits_now work_control WorkFits x.work r0 (ready_account e).memo
  step_fits = turning.fits start s x e stood.may here stood.stage

  pub geometry : GeometryFits x.me.geometry
  geometry = subst GeometryFits (sym stood.may.me) stood.may.geometry

  pub who : x.me.who < x.me.geometry.clients
  who = subst (λ (g : Geometry). x.me.who < g.clients) (sym stood.may.me) stood.may.who

  pub may_begin : (k : ℕ) (l : Line) → slice_get s.lines k ≡ Some l → LineMayStand x.me l
  may_begin k l at =
      may_stand x.me l
      (subst (λ (g : Geometry). LineFits g.clients x.me.who l) (sym stood.may.me)
      (subst (λ (d : ℕ). LineFits start.geometry.clients d l) stood.may.client (line_fits start.geometry.clients s.client s.lines k l stood.may.script.lines at)))

  pub may_begin_in : (ls : List Line) → ls ≡ s.lines → (k : ℕ) (l : Line) → slice_get ls k ≡ Some l → LineMayStand x.me l
  may_begin_in ls same k l at = may_begin k l (ap (λ (zs : List Line). slice_get zs k) (sym same) ∙ at)

  -- what the word step says, clause by clause
  pub after : (acc2 : ℕ → Account) {start2 : Start} {w : Work} {life : Life} {u : Turn WorkAnswer} → ((is_died u ≡ true → x.life.left ≡ 0) × (x.life.left ≡ 0 → is_died u ≡ true)) → (is_died u ≡ true → (acc2 x.me.who ≡ e) × (w ≡ x.work) × (life ≡ x.life))
      → (0 < x.life.left → (life.left + 1 ≡ x.life.left) × Worked work_control (fits_now work_control WorkFits) (gives_now WorkGives) x.work e (acc2 x.me.who) u w)
      → start2 ≡ start → Stood start2 (acc2 x.me.who) → (acc2 x.me.who).who ≡ x.me.who → After start x e (acc2 x.me.who) w life u
  after acc2 (died, some) stays turn same stood2 named = record { died = died; some = some; stays = stays; turn = turn; stood = subst (λ (z : Start). Stood z (acc2 x.me.who)) same stood2; named = named }

  module _ {e2 : Account} {w : Work} {life : Life} {u : Turn WorkAnswer} (a : After start x e e2 w life u) where
    abbrev pub Stand : Playing → Type 0
    Stand y = AgentsStand start s y e2

    -- ---- a word step was made

    module _ (acts : is_died u ≡ false) where
      some : 0 < x.life.left
      some = lives u x.life.left acts a.some

      left : life.left + 1 ≡ x.life.left
      left = (a.turn some).0

      turn : Worked work_control (fits_now work_control WorkFits) (gives_now WorkGives) x.work e e2 u w
      turn = (a.turn some).1

      abbrev n : ℕ
      n = turn.seen

      abbrev next : Work
      next = work_control.after x.work n

      pub turns : (y : Playing) → y.agent ≡ x.agent → y.life ≡ life → turns_by y (Some s) < turns_by now (Some s)
      turns y agent same =
          let spent : y.life.left + 1 ≡ now.life.left = ap (λ (z : Life). z.left + 1) same ∙ (left ∙ ap (λ (z : Playing). z.life.left) b.is) in
          fewer s now y b.here (agent ∙ ap (λ (z : Playing). z.agent) b.is) (omega arith)

      pub given : turns_given e2 ≡ turns_given e + 1
      given = given_worked e e2 _ turn.account

      answer : (v : WorkAnswer) → u ≡ Done v → work_control.turns x.work n ≡ Some v
      answer v o = answered_is (work_control.turns x.work n) u v turn.turn o

      pub more : u ≡ More → Stand (record x { work = w; life = life })
      more o =
          (subst (λ (z : Work). AgentsStand start s (record x { work = z; life = life }) e2) (sym turn.next)
          (turning.went_on start s x e stood.may here stood.stage stood.taken e2 n turn.account a.stood a.named life left turn.learns (none_on (work_control.turns x.work n) (sym o ∙ turn.turn))))

      -- what begin leaves of them, with the lines ls
      pub joined : (v : Unit {0}) → u ≡ Done (First (First v)) → (ls : List Line) → ls ≡ s.lines → (z : Playing) → z ≡ record x { work = behind x.me ls (length x.entries); life = life } → Stand z
      joined v o ls same z is =
          subst Stand (sym (is ∙ ap (λ (ls : List Line). record x { work = behind x.me ls (length x.entries); life = life }) same))
          (turning.began start s x e stood.may here stood.stage stood.taken e2 n turn.account a.stood a.named life left turn.learns v (answer (First (First v)) o))

      pub recovered : (v : Result (Unit {0}) EraSpent) → u ≡ Done (First (Second v)) → (v ≡ Ok tt) × Stand (record x { work = w; life = life; standing = Gone })
      recovered v o =
          let done = turning.recovered start s x e stood.may here stood.stage stood.taken e2 n turn.account a.stood a.named life left turn.learns v (answer (First (Second v)) o) in (
            done.0,
            (subst (λ (z : Work). AgentsStand start s (record x { work = z; life = life; standing = Gone }) e2) (sym turn.next) done.1),
          )

      pub answered : (v : Answer) → u ≡ Done (Second (First v)) → (l : Line) × (slice_get s.lines (length x.entries) ≡ Some l) × Stand (record x { entries = x.entries ++ record { line = l; answer = v } ∷ []; work = behind x.me s.lines (length (x.entries ++ record { line = l; answer = v } ∷ [])); life = life })
      answered v o =
          let done = turning.answered start s x e stood.may here stood.stage stood.taken e2 n turn.account a.stood a.named life left turn.learns v (answer (Second (First v)) o) in
          (done.0, done.1, done.2)

      pub parted : (v : Result (Unit {0}) EraSpent) → u ≡ Done (Second (Second v)) → (v ≡ Ok tt) × Stand (record x { work = w; life = life; end = Some end.Ended; standing = Gone })
      parted v o =
          let done = turning.parted start s x e stood.may here stood.stage stood.taken e2 n turn.account a.stood a.named life left turn.learns v (answer (Second (Second v)) o) in (
            done.0,
            (subst (λ (z : Work). AgentsStand start s (record x { work = z; life = life; end = Some end.Ended; standing = Gone }) e2) (sym turn.next) done.1),
          )

      -- ---- what they are at then, by what was answered, with the lines ls

      pub may_go_on : (v : WorkAnswer) → u ≡ Done v → (ls : List Line) → ls ≡ s.lines → MayGoOn ls v (record x { work = w; life = life })
      may_go_on (First (First v)) o ls same = tt
      may_go_on (First (Second v)) o ls same = subst (λ (r : Result (Unit {0}) EraSpent). IsOk r) (sym (recovered v o).0) refl
      may_go_on (Second (First v)) o ls same =
          let done = answered v o in
          let low = slice_get_within s.lines (length x.entries) done.0 done.1 in
          let room = stood.may.room in
          (done.0, ap (λ (zs : List Line). slice_get zs (length x.entries)) same ∙ done.1, omega arith)
      may_go_on (Second (Second v)) o ls same = subst (λ (r : Result (Unit {0}) EraSpent). IsOk r) (sym (parted v o).0) refl

      -- so they stand
      pub record GoneOn (y : Playing) : Type 0 where
        pub stands : Stand y
        pub me : y.me ≡ x.me
        pub script : y.script ≡ x.script
        pub agent : y.agent ≡ x.agent
        pub lives : y.life ≡ life

      gone_as : (y z : Playing) → y ≡ z → GoneOn z → GoneOn y
      gone_as y z is h = subst GoneOn (sym is) h

      pub gone_on : (v : WorkAnswer) → u ≡ Done v → (ls : List Line) → ls ≡ s.lines → (y : Playing) → HasGoneOn ls v (record x { work = w; life = life }) y → GoneOn y
      gone_on (First (First v)) o ls same y h =
          gone_as y (record x { work = behind x.me ls (length x.entries); life = life }) h
          (record { stands = joined v o ls same (record x { work = behind x.me ls (length x.entries); life = life }) refl; me = refl; script = refl; agent = refl; lives = refl })
      gone_on (First (Second v)) o ls same y h =
          gone_as y (record x { work = w; life = life; standing = Gone }) h (record { stands = (recovered v o).1; me = refl; script = refl; agent = refl; lives = refl })
      gone_on (Second (First v)) o ls same y h =
          let done = answered v o in
          let y1 : Playing = record x { work = w; life = life; entries = x.entries ++ record { line = done.0; answer = v } ∷ [] } in
          gone_as y (record y1 { work = behind x.me s.lines (length y1.entries) })
          (h done.0 (ap (λ (zs : List Line). slice_get zs (length x.entries)) same ∙ done.1) ∙ ap (λ (zs : List Line). record y1 { work = behind x.me zs (length y1.entries) }) same)
          (record { stands = done.2; me = refl; script = refl; agent = refl; lives = refl })
      gone_on (Second (Second v)) o ls same y h =
          gone_as y (record x { work = w; life = life; end = Some end.Ended; standing = Gone }) h (record { stands = (parted v o).1; me = refl; script = refl; agent = refl; lives = refl })

    -- ---- no word step is left: nothing has changed, and the agent dies

    module _ (died : is_died u ≡ true) where
      pub same_account : e2 ≡ e
      same_account = (a.stays died).0

      pub same : record x { work = w; life = life } ≡ now
      same = let h = a.stays died in ap (λ (z : Work). record x { work = z; life = life }) h.1 ∙ (ap (λ (z : Life). record x { life = z }) h.2 ∙ b.is)

      pub dead_stands : AgentsStand start s now e2
      dead_stands = subst (AgentsStand start s now) (sym same_account) b.stands

      pub spent : now.life.left ≡ 0
      spent = sym (ap (λ (y : Playing). y.life.left) b.is) ∙ a.died died
