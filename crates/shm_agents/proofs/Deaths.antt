-- the agents of a script stand after the death of the one that was at work
use Rattle.std.proofs.Common.{◌≡◌, ℕ, zero, suc, ◌+◌, ◌^◌, ◌<◌, ◌≤◌, ◌⊎◌, true, false, List, [], ◌∷◌, ◌++◌, get_or, length, refl, sym, ap, ◌∙◌, subst, inl, inr, arith}
use Rattle.std.proofs.lemmas.{List.{length-append, Sums.sum_by-cons}, Option.{get_or_from_slice_get, slice_get_within}}
use Rattle.std.specs.{Prelude.{Option, Some, None, drop, slice_get, sum}, List.AllByRecursion, Option.is_some}
use Rattle.shm_words.specs.{declared.geometry.Geometry.Geometry, Layout.GeometryFits}
use Rattle.shm_graph.specs.declared.{ask.Me.Me, memo.Agent.Agent, run.{Account.Account, Start.Start}}
use Rattle.shm_graph.specs.{Agents.{acts, acts_by, last_agent}, Held.is_loose}
use Rattle.shm_graph.specs.Runs.{Stood, account_died, first_account, told_left}
use Rattle.shm_graph.proofs.Memos.MemoSteps.{last-append}
use Rattle.shm_script.specs.{declared.{line.Line.{Line, TheVariants.Del}, log.End.End}, Ranges.IsLife, Values.Scripted}
use Rattle.shm_agents.specs.declared.agents.Standing.{Standing, TheVariants.{AtWork, Dead, Gone}}
use Rattle.shm_agents.specs.Agents.{IsFallen, IsMending, IsPlaying, IsSettled, MayPlay, Playing, Stage, AgentsStand, follows, shown_by}
use Rattle.shm_agents.specs.{Agents.Stage.{Fresh, Plays, Parted, Fallen, Mending, Mended}, Taken.HasTaken}
use Rattle.shm_agents.specs.{TurnsLeft.{turns_at, turns_by, turns_of}, Turns.lives_of}
use Rattle.shm_agents.proofs.Dying.{CommandMaps, falls_mending, falls_playing, mended_settled, playing_settled, settles, shows_line}
use Rattle.shm_agents.proofs.{Loose.has_table, Taking.took_death}

-- ---- lives

-- each agent has some word steps
some_steps : (life : List ℕ) → AllByRecursion IsLife life → (i n : ℕ) → slice_get (life ++ 2 ^ 40 ∷ []) i ≡ Some n → 0 < n
some_steps [] all zero n at = let e : 2 ^ 40 ≡ n = cc in omega arith
some_steps [] all (suc i) n at = absurd (cc)
some_steps (k ∷ life) all zero n at = let e : k ≡ n = cc in let l = all.0.0 in omega arith
some_steps (k ∷ life) all (suc i) n at = some_steps life all.1 i n at

pub some_life : (life : List ℕ) → AllByRecursion IsLife life → (i n : ℕ) → slice_get (lives_of life) i ≡ Some n → 0 < n
some_life [] all zero n at = let e : 2 ^ 40 ≡ n = cc in omega arith
some_life [] all (suc i) n at = some_steps [] all i n at
some_life (k ∷ life) all i n at = some_steps (k ∷ life) all i n at

-- there are as many agents as word steps at most, and two more
few_agents : (life : List ℕ) → AllByRecursion IsLife life → length life ≤ sum life
few_agents [] all = omega arith
few_agents (k ∷ life) all =
    let a : sum (k ∷ life) ≡ k + sum life = sum_by-cons (λ (n : ℕ). n) k life in
    let b = few_agents life all.1 in
    let c = all.0.0 in
    omega arith

long_lives : (life : List ℕ) → length (lives_of life) ≤ length life + 2
long_lives [] = omega arith
long_lives (k ∷ life) = let a = length-append life (2 ^ 40 ∷ []) in omega arith

turns_drop : (ns : List ℕ) (i n : ℕ) → slice_get ns i ≡ Some n → turns_of (drop i ns) ≡ n + 1 + turns_of (drop (suc i) ns)
turns_drop [] i n at = absurd (cc)
turns_drop (k ∷ ns) zero n at = let e : k ≡ n = cc in ap (λ (z : ℕ). z + 1 + turns_of ns) e
turns_drop (k ∷ ns) (suc i) n at = turns_drop ns i n at

-- ---- what follows

follows_me : (o : Option ℕ) (y : Playing) → (follows o y).me ≡ y.me
follows_me None y = refl
follows_me (Some n) y = refl

follows_script : (o : Option ℕ) (y : Playing) → (follows o y).script ≡ y.script
follows_script None y = refl
follows_script (Some n) y = refl

follows_room : (o : Option ℕ) (y : Playing) → (follows o y).room ≡ y.room
follows_room None y = refl
follows_room (Some n) y = refl

-- less is left to do
follows_fewer : (s : Scripted) (y : Playing) (left : ℕ) (o : Option ℕ) → y.standing ≡ AtWork → slice_get (lives_of s.life) (y.agent + 1) ≡ o → turns_by (follows o y) (Some s) < left + 1 + turns_of (drop (y.agent + 1) (lives_of s.life))
follows_fewer s y left None here at = omega arith
follows_fewer s y left (Some n) here at =
    let a = turns_drop (lives_of s.life) (y.agent + 1) n at in
    let one : suc (y.agent + 1) ≡ y.agent + 1 + 1 = omega arith in
    let b : turns_of (drop (suc (y.agent + 1)) (lives_of s.life)) ≡ turns_of (drop (y.agent + 1 + 1) (lives_of s.life)) = ap (λ (k : ℕ). turns_of (drop k (lives_of s.life))) one in
    let c : turns_by (follows (Some n) y) (Some s) ≡ n + 1 + turns_of (drop (y.agent + 1 + 1) (lives_of s.life)) = ap (λ (z : Standing). turns_at z (n + 1 + turns_of (drop (y.agent + 1 + 1) (lives_of s.life)))) here in
    omega arith

-- ---- the death

-- the agents x of the script s stand, and the one that is at work has no word step left
pub record IsSpent (start : Start) (s : Scripted) (x : Playing) (e : Account) : Type 0 where
  pub stood : Stood start e
  pub stands : AgentsStand start s x e
  pub here : x.standing ≡ AtWork
  pub spent : x.life.left ≡ 0

module _ (start : Start) (s : Scripted) (x : Playing) (e : Account) (is : IsSpent start s x e) where
  abbrev c : ℕ
  c = x.me.who

  may : MayPlay start s x
  may = is.stands.may

  -- the client is at work, or a recoverer
  stage : IsPlaying s x e ⊎ (IsMending s x e × IsSettled s x e e.told)
  stage = go is.stands.stage
    where
      go : Stage start s x e → IsPlaying s x e ⊎ (IsMending s x e × IsSettled s x e e.told)
      go (Fresh h) = absurd (let l = some_life s.life may.script.life 0 x.life.left h.life in let z = is.spent in omega arith)
      go (Plays h) = inl h
      go (Parted h) = absurd (let z : AtWork ≡ Gone = sym is.here ∙ h.left in cc)
      go (Fallen h l) =
          elim h.next [
            | inl d ↦ absurd (let z : AtWork ≡ Dead = sym is.here ∙ d.0 in cc)
            | inr l ↦ absurd (let k = some_life s.life may.script.life x.agent x.life.left l.1 in let z = is.spent in omega arith)
          ]
      go (Mending h l) = inr (h, l)
      go (Mended h l) = absurd (let z : AtWork ≡ Gone = sym is.here ∙ h.recovered in cc)

  pub acting : acts e.memo ≡ true
  acting =
      elim stage [
        | inl h ↦ ap (λ (xs : List Agent). acts_by (last_agent xs)) h.agents
        | inr h ↦ ap (λ (xs : List Agent). acts_by (last_agent xs)) h.0.agents ∙ ap acts_by (last-append h.0.before _)
      ]

  -- ---- what needs to be shown on the way

  pub geometry : GeometryFits x.me.geometry
  geometry = subst GeometryFits (sym may.me) may.geometry

  pub who : c < x.me.geometry.clients
  who = subst (λ (g : Geometry). c < g.clients) (sym may.me) may.who

  pub agent_fits : x.agent + 1 < 2 ^ 64
  agent_fits =
      let a : x.agent < length (lives_of s.life) = elim stage [
        | inl h ↦ subst (λ (k : ℕ). k < length (lives_of s.life)) (sym h.agent) (slice_get_within (lives_of s.life) 0 _ h.life)
        | inr h ↦ slice_get_within (lives_of s.life) x.agent _ h.0.life
      ] in
      let b = long_lives s.life in
      let d = few_agents s.life may.script.life in
      let f = may.script.sum in
      omega arith

  -- a client that hasn't ended is at work
  pub plays : x.end ≡ None → IsPlaying s x e
  plays none =
      elim stage [
        | inl h ↦ h
        | inr h ↦ absurd (let z : Some h.1.end ≡ None = sym h.1.ended ∙ none in cc)
      ]

  -- the line of the command that it may be in
  abbrev pub line : Line
  line = get_or s.lines (length x.entries) (Del 0)

  pub line_at : x.end ≡ None → is_some (shown_by x.work) ≡ true → slice_get s.lines (length x.entries) ≡ Some line
  line_at none shown =
      let l = shows_line s x e (plays none) shown in
      l.1 ∙ ap (λ (z : Line). Some z) (sym (get_or_from_slice_get s.lines (length x.entries) l.0 (Del 0) l.1))

  pub below : x.end ≡ None → is_some (shown_by x.work) ≡ true → length x.entries < length s.lines
  below none shown = slice_get_within s.lines (length x.entries) line (line_at none shown)

  -- ---- what stands then

  still : (z : Playing) → z.me ≡ x.me → z.room ≡ x.room → MayPlay start s z
  still z me room =
      record {
        geometry = may.geometry;
        era = may.era;
        tables = may.tables;
        me = ap (λ (m : Me). m.geometry) me ∙ may.me;
        who = subst (λ (m : Me). m.who < start.geometry.clients) (sym me) may.who;
        client = may.client ∙ ap (λ (m : Me). m.who) (sym me);
        script = may.script;
        room = subst (λ (n : ℕ). length s.lines ≤ n) (sym room) may.room;
      }

  -- what was noted before the next one came: the client's end, or nothing where a recoverer died
  abbrev pub Noted : Playing → Type 0
  Noted y = ((x.end ≡ None) × (y ≡ settles line x)) ⊎ ((is_some x.end ≡ true) × (y ≡ x))

  module _ (maps : CommandMaps) (y : Playing) (noted : Noted y) where
    abbrev next : Option ℕ
    next = slice_get (lives_of s.life) (y.agent + 1)

    pub noted_me : y.me ≡ x.me
    noted_me =
        elim noted [
          | inl n ↦ ap (λ (z : Playing). z.me) n.1
          | inr n ↦ ap (λ (z : Playing). z.me) n.1
        ]

    pub noted_script : y.script ≡ x.script
    noted_script =
        elim noted [
          | inl n ↦ ap (λ (z : Playing). z.script) n.1
          | inr n ↦ ap (λ (z : Playing). z.script) n.1
        ]

    noted_room : y.room ≡ x.room
    noted_room =
        elim noted [
          | inl n ↦ ap (λ (z : Playing). z.room) n.1
          | inr n ↦ ap (λ (z : Playing). z.room) n.1
        ]

    pub noted_agent : y.agent ≡ x.agent
    noted_agent =
        elim noted [
          | inl n ↦ ap (λ (z : Playing). z.agent) n.1
          | inr n ↦ ap (λ (z : Playing). z.agent) n.1
        ]

    noted_here : y.standing ≡ AtWork
    noted_here =
        elim noted [
          | inl n ↦ ap (λ (z : Playing). z.standing) n.1 ∙ is.here
          | inr n ↦ ap (λ (z : Playing). z.standing) n.1 ∙ is.here
        ]

    abbrev behind_it : Playing → Playing
    behind_it z = follows (slice_get (lives_of s.life) (z.agent + 1)) z

    abbrev After : Playing → Type 0
    After z = IsFallen s (behind_it z) (account_died e) × IsSettled s (behind_it z) (account_died e) (told_left true (account_died e))

    table : is_loose e.memo.part ≡ false
    table = has_table start e is.stood may.tables

    falls : After y
    falls =
        elim noted [
          | inl n ↦ subst After (sym n.1) (falls_playing s x e (plays n.0) may.client table maps line (line_at n.0) is.spent, playing_settled s x e (plays n.0) may.client table maps line (line_at n.0))
          | inr n ↦ subst After (sym n.1) (falls_mending s x e (mends n.0).0 is.spent, mended_settled s x e (mends n.0).0 (mends n.0).1)
        ]
      where
        mends : is_some x.end ≡ true → IsMending s x e × IsSettled s x e e.told
        mends some =
            elim stage [
              | inl h ↦ absurd (let z : true ≡ false = sym some ∙ ap (λ (o : Option End). is_some o) h.end in cc)
              | inr h ↦ h
            ]

    -- the agents after it, in the pool after it
    module _ (e2 : Account) (to : e2 ≡ account_died e) (z : Playing) (last : z ≡ follows next y) where
      pub last_me : z.me ≡ x.me
      last_me = ap (λ (w : Playing). w.me) last ∙ (follows_me next y ∙ noted_me)

      pub last_script : z.script ≡ x.script
      last_script = ap (λ (w : Playing). w.script) last ∙ (follows_script next y ∙ noted_script)

      pub last_stands : AgentsStand start s z e2
      last_stands =
          subst (AgentsStand start s z) (sym to)
          (record {
            may = still z last_me (ap (λ (w : Playing). w.room) last ∙ (follows_room next y ∙ noted_room));
            stage = Fallen (subst (λ (w : Playing). IsFallen s w (account_died e)) (sym last) falls.0) (subst (λ (w : Playing). IsSettled s w (account_died e) (told_left true (account_died e))) (sym last) falls.1);
            taken = subst (λ (m : Me). HasTaken m s.lines (first_account start m.who) (account_died e)) (sym last_me) (took_death x.me s.lines (first_account start x.me.who) e is.stands.taken acting);
          })

      pub last_fewer : turns_by z (Some s) < turns_by x (Some s)
      last_fewer =
          let a = follows_fewer s y x.life.left next noted_here refl in
          let b : turns_by z (Some s) ≡ turns_by (follows next y) (Some s) = ap (λ (w : Playing). turns_by w (Some s)) last in
          let d : turns_by x (Some s) ≡ x.life.left + 1 + turns_of (drop (x.agent + 1) (lives_of s.life)) = ap (λ (w : Standing). turns_at w (x.life.left + 1 + turns_of (drop (x.agent + 1) (lives_of s.life)))) is.here in
          let f : turns_of (drop (y.agent + 1) (lives_of s.life)) ≡ turns_of (drop (x.agent + 1) (lives_of s.life)) = ap (λ (k : ℕ). turns_of (drop (k + 1) (lives_of s.life))) noted_agent in
          omega arith
