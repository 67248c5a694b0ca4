-- the agents of a script that stand are given up
use Rattle.std.proofs.Common.{◌≡◌, ℕ, zero, suc, ◌+◌, ◌^◌, ◌<◌, ◌≤◌, ◌⊎◌, Bool, true, false, cond, List, [], ◌∷◌, ◌++◌, take, get_or, length, refl, sym, ap, ◌∙◌, subst, inl, inr, arith}
use Rattle.std.proofs.lemmas.{Bool.true≢false, List.Sums.sum_by-cons, Option.{get_or_from_slice_get, slice_get_within}}
use Rattle.std.specs.{Prelude.{not, Option, Some, None, slice_get, sum}, Option.is_some}
use Rattle.shm_words.specs.{Layout.GeometryFits, declared.geometry.Geometry.Geometry}
use Rattle.shm_graph.specs.declared.{ask.Me.Me, memo.{Agent.Agent, Kind.TheVariants.Recoverer}, run.Account.Account}
use Rattle.shm_graph.specs.declared.run.Start.{Start}
use Rattle.shm_graph.specs.{Agents.{acts, acts_by, fallen, last_agent, steps_made, steps_of, with_last}, Held.is_loose}
use Rattle.shm_graph.specs.Runs.{Stood, account_died, fell_by, told_left}
use Rattle.shm_graph.specs.declared.memo.Fate.TheVariants as fate
use Rattle.shm_graph.proofs.Memos.MemoSteps.{last-append}
use Rattle.shm_recover.specs.Recover.Control.{recover_line}
use Rattle.shm_script.specs.declared.{line.Line.{Line, TheVariants.Del}, log.{Answer.Answer, End.End, Entry.Entry}}
use Rattle.shm_script.specs.Values.{Scripted}
use Rattle.shm_script.specs.declared.log.End.TheVariants as end
use Rattle.shm_agents.specs.declared.agents.Standing.TheVariants.{AtWork, Dead, Gone}
use Rattle.shm_agents.specs.Agents.{IsFallen, IsFold, IsFresh, IsMending, IsPlaying, IsSettled, MayPlay, Playing, Stage, AgentsStand, one_agent, shown_by}
use Rattle.shm_agents.specs.{Agents.Stage.{Fresh, Plays, Parted, Fallen, Mending, Mended}, Courses.AreAgents}
use Rattle.shm_agents.specs.{Cuts.{AreCut, IsCut, IsCutOff, IsUnbegun, account_cut}, Logs.with_effect, Turns.lives_of}
use Rattle.shm_agents.specs.Work.{Work, join_work}
use Rattle.shm_agents.proofs.{Courses.agents_more, Deaths.some_life}
use Rattle.shm_agents.proofs.Dying.{CommandMaps, dies, mended, mended_agents, settles, shows_line}
use Rattle.shm_agents.proofs.{Growing.steps_of-end, Joining.first_fold, Loose.has_table, Standing.fell_quiet}

-- ---- lives

same_some : (m n : ℕ) → Some m ≡ Some n → m ≡ n
same_some m n e = cc

-- one life more in front
cut_more : (n : ℕ) (ns ms : List ℕ) → AreCut ns ms → AreCut (n ∷ ns) (n ∷ ms)
cut_more n ns (m ∷ []) h = (refl, h)
cut_more n ns (m ∷ j ∷ ms) h = (refl, h)
cut_more n [] [] h = absurd h
cut_more n (k ∷ ns) [] h = absurd h

-- a front of them, and at most so many of the next one
cut_last : (ns : List ℕ) (i n k : ℕ) → slice_get ns i ≡ Some n → k ≤ n → AreCut ns (take i ns ++ k ∷ [])
cut_last [] i n k at few = absurd (cc)
cut_last (m ∷ ns) zero n k at few = let same = same_some m n at in (let most : k ≤ m = omega arith in most)
cut_last (m ∷ ns) (suc i) n k at few = cut_more m ns (take i ns ++ k ∷ []) (cut_last ns i n k at few)

-- a front of them
cut_front : (ns : List ℕ) (i n : ℕ) → slice_get ns i ≡ Some n → 0 < i → AreCut ns (take i ns)
cut_front [] i n at some = absurd (cc)
cut_front (m ∷ ns) zero n at some = absurd (omega arith)
cut_front (m ∷ ns) (suc zero) n at some = omega arith
cut_front (m ∷ ns) (suc (suc i)) n at some = cut_more m ns (take (suc i) ns) (cut_front ns (suc i) n at (omega arith))

-- it has some word steps
front_some : (ns : List ℕ) (i n : ℕ) → slice_get ns i ≡ Some n → 0 < i → ((m : ℕ) → slice_get ns 0 ≡ Some m → 0 < m) → 0 < sum (take i ns)
front_some [] i n at some lives = absurd (cc)
front_some (m ∷ ns) zero n at some lives = absurd (omega arith)
front_some (m ∷ ns) (suc i) n at some lives = let one = lives m refl in let all = sum_by-cons (λ (k : ℕ). k) m (take i ns) in omega arith

-- ---- the log

pub none_by : (o : Option End) → is_some o ≡ false → o ≡ None
none_by None e = refl
none_by (Some y) e = absurd (true≢false e)

settled_dead : (s : Scripted) (y : Playing) (e : Account) → IsSettled s y e (told_left true e) → IsSettled s (record y { standing = Dead }) e (told_left true e)
settled_dead s y e h = record { end = h.end; ended = h.ended; log = h.log; only = h.only; unspent = h.unspent; fold = h.fold; table = h.table }

module _ (start : Start) (s : Scripted) (x : Playing) (e : Account) (stands : AgentsStand start s x e) (here : x.standing ≡ AtWork) where
  may : MayPlay start s x
  may = stands.may

  gone_not : {A : Type 0} → x.standing ≡ Gone → A
  gone_not gone = let z : AtWork ≡ Gone = sym here ∙ gone in absurd (cc)

  next_at : IsFallen s x e → slice_get (lives_of s.life) x.agent ≡ Some x.life.left
  next_at f = elim f.next [ inl d ↦ (let z : AtWork ≡ Dead = sym here ∙ d.0 in absurd (cc)) | inr w ↦ w.1 ]

  quiet_fresh : IsFresh start s x e → acts e.memo ≡ false
  quiet_fresh h = ap (λ (a : Account). acts a.memo) h.account

  quiet_fallen : IsFallen s x e → acts e.memo ≡ false
  quiet_fallen h = fell_quiet (last_agent e.memo.agents) h.fell

  acts_playing : IsPlaying s x e → acts e.memo ≡ true
  acts_playing h = ap (λ (xs : List Agent). acts_by (last_agent xs)) h.agents

  acts_mending : IsMending s x e → acts e.memo ≡ true
  acts_mending h = ap (λ (xs : List Agent). acts_by (last_agent xs)) h.agents ∙ ap acts_by (last-append h.before _)

  -- ---- an agent acts where it has made a word step of its life

  module _ (b : Bool) (some : b ≡ true → (n : ℕ) × (slice_get (lives_of s.life) x.agent ≡ Some n) × (x.life.left < n)) (none : b ≡ false → (n : ℕ) → slice_get (lives_of s.life) x.agent ≡ Some n → n ≤ x.life.left) where
    unbegun : slice_get (lives_of s.life) x.agent ≡ Some x.life.left → b ≡ false
    unbegun at = go b refl
      where
        go : (d : Bool) → b ≡ d → b ≡ false
        go false is = is
        go true is = absurd (let z = some is in let same = same_some z.0 x.life.left (sym z.1 ∙ at) in let less = z.2 in omega arith)

    begun : (steps : ℕ) → 0 < steps → slice_get (lives_of s.life) x.agent ≡ Some (x.life.left + steps) → b ≡ true
    begun steps stepped at = go b refl
      where
        go : (d : Bool) → b ≡ d → b ≡ true
        go true is = is
        go false is = absurd (let most = none is (x.life.left + steps) at in omega arith)

    pub acts_is : acts e.memo ≡ b
    acts_is = go stands.stage
      where
        go : Stage start s x e → acts e.memo ≡ b
        go (Fresh h) = quiet_fresh h ∙ sym (unbegun (ap (slice_get (lives_of s.life)) h.agent ∙ h.life))
        go (Plays h) = acts_playing h ∙ sym (begun h.steps h.stepped (ap (slice_get (lives_of s.life)) h.agent ∙ h.life))
        go (Parted h) = gone_not h.left
        go (Fallen h l) = quiet_fallen h ∙ sym (unbegun (next_at h))
        go (Mending h l) = acts_mending h ∙ sym (begun h.steps h.stepped h.life)
        go (Mended h l) = gone_not h.recovered

  -- where the client hasn't ended yet, the line of the command that it may be in
  abbrev IsLine : Line → Type 0
  IsLine line = is_some (shown_by x.work) ≡ true → slice_get s.lines (length x.entries) ≡ Some line

  -- ---- what needs to be shown on the way

  -- the line of the command that the client may be in
  abbrev pub line : Line
  line = get_or s.lines (length x.entries) (Del 0)

  pub line_at : x.end ≡ None → IsLine line
  line_at none shown = go stands.stage
    where
      at : (l : Line) × (slice_get s.lines (length x.entries) ≡ Some l) → slice_get s.lines (length x.entries) ≡ Some line
      at l = l.1 ∙ ap (λ (z : Line). Some z) (sym (get_or_from_slice_get s.lines (length x.entries) l.0 (Del 0) l.1))

      go : Stage start s x e → slice_get s.lines (length x.entries) ≡ Some line
      go (Fresh h) = absurd (true≢false (sym shown ∙ ap (λ (w : Work). is_some (shown_by w)) h.work))
      go (Plays h) = at (shows_line s x e h shown)
      go (Parted h) = gone_not h.left
      go (Fallen h l) = absurd (let z : Some l.end ≡ None = sym l.ended ∙ none in cc)
      go (Mending h l) = absurd (let z : Some l.end ≡ None = sym l.ended ∙ none in cc)
      go (Mended h l) = gone_not h.recovered

  pub below : x.end ≡ None → is_some (shown_by x.work) ≡ true → length x.entries < length s.lines
  below none shown = slice_get_within s.lines (length x.entries) line (line_at none shown)

  -- ---- they are given up

  -- what was noted: how the client ended, if that wasn't noted before
  abbrev pub Noted : Playing → Type 0
  Noted y = ((x.end ≡ None) × ((line : Line) × IsLine line × (y ≡ settles line x))) ⊎ ((is_some x.end ≡ true) × (y ≡ x))

  pub cut_here : acts e.memo ≡ true → account_cut e ≡ account_died e
  cut_here h = ap (λ (b : Bool). cond b (account_died e) e) h

  pub cut_still : acts e.memo ≡ false → account_cut e ≡ e
  cut_still h = ap (λ (b : Bool). cond b (account_died e) e) h

  pub noted_by : (b : Bool) (y : Playing) → is_some x.end ≡ not b → (b ≡ true → y ≡ settles line x) → (b ≡ false → y ≡ x) → Noted y
  noted_by true y ending new old = let none = none_by x.end ending in inl (none, (line, line_at none, new refl))
  noted_by false y ending new old = inr (ending, old refl)

  pub noted_same : (y : Playing) → Noted y → (y.me ≡ x.me) × (y.script ≡ x.script) × (y.agent ≡ x.agent)
  noted_same y (inl n) = (ap (λ (z : Playing). z.me) n.1.2, ap (λ (z : Playing). z.script) n.1.2, ap (λ (z : Playing). z.agent) n.1.2)
  noted_same y (inr n) = (ap (λ (z : Playing). z.me) n.1, ap (λ (z : Playing). z.script) n.1, ap (λ (z : Playing). z.agent) n.1)

  module _ (stood : Stood start e) (maps : CommandMaps) where
    table : is_loose e.memo.part ≡ false
    table = has_table start e stood may.tables

    abbrev pub dead : Playing → Playing
    dead y = record y { standing = Dead }

    -- nobody had begun
    cut_fresh : IsFresh start s x e → (line : Line) → IsUnbegun (dead (settles line x)) e
    cut_fresh h line =
        let none = ap shown_by h.work in
        record {
          status = ap (λ (a : Account). a.memo.status) h.account;
          agents = ap (λ (a : Account). a.memo.agents) h.account;
          told = ap (λ (a : Account). a.told) h.account;
          entries = ap (with_effect x.entries line) none ∙ h.entries;
          end = ap (λ (o : Option Answer). Some (end.Died (length x.entries) (is_some o))) none ∙ ap (λ (es : List Entry). Some (end.Died (length es) false)) h.entries;
          fold = subst (λ (a : Account). IsFold [] a.memo) (sym h.account) (first_fold start x.me.who may.tables);
        }

    cut_playing : (h : IsPlaying s x e) (line : Line) → IsLine line → IsCutOff s (dead (settles line x)) (account_died e)
    cut_playing h line at =
        let agents : (account_died e).memo.agents ≡ one_agent h.steps fate.Died = ap (with_last fallen) h.agents in
        record {
          settled = settled_dead s (settles line x) (account_died e) (dies s x e h may.client table maps line at (slice_get s.lines (length x.entries)) refl);
          fell = ap (λ (xs : List Agent). fell_by (last_agent xs)) agents;
          stepped = (let made = ap steps_of agents in let some = h.stepped in omega arith);
          lives = h.steps ∷ [];
          cut = cut_last (lives_of s.life) 0 (x.life.left + h.steps) h.steps h.life (omega arith);
          died = subst (λ (xs : List Agent). AreAgents s.lines (h.steps ∷ []) xs e.begun true) (sym agents)
              (subst (λ (bs : List (List (List ℕ))). AreAgents s.lines (h.steps ∷ []) (one_agent h.steps fate.Died) bs true) (sym h.is_begun)
              (refl, inl (refl, refl), h.lines, refl));
        }

    -- one had died, and the next one hadn't begun
    cut_fallen : IsFallen s x e → IsSettled s x e (told_left true e) → IsCutOff s (dead x) e
    cut_fallen h l =
        record {
          settled = settled_dead s x e l;
          fell = h.fell;
          stepped = (let made = h.made in let some = front_some (lives_of s.life) x.agent x.life.left (next_at h) h.some (some_life s.life may.script.life 0) in omega arith);
          lives = take x.agent (lives_of s.life);
          cut = cut_front (lives_of s.life) x.agent x.life.left (next_at h) h.some;
          died = h.died;
        }

    cut_mending : (h : IsMending s x e) → IsSettled s x e e.told → IsCutOff s (dead x) (account_died e)
    cut_mending h l =
        let it : Agent = record { kind = Recoverer; steps = h.steps; fate = fate.Acts } in
        let lives : List ℕ = take x.agent (lives_of s.life) ++ h.steps ∷ [] in
        let agents : (account_died e).memo.agents ≡ h.before ++ fallen it ∷ [] = mended_agents s x e h in
        record {
          settled = settled_dead s x (account_died e) (mended s x e h l);
          fell = ap (λ (xs : List Agent). fell_by (last_agent xs)) agents ∙ ap fell_by (last-append h.before (fallen it));
          stepped = (let made = ap steps_of agents in let all = steps_of-end h.before (fallen it) in let some = h.stepped in omega arith);
          lives = lives;
          cut = cut_last (lives_of s.life) x.agent (x.life.left + h.steps) h.steps h.life (omega arith);
          died = subst (λ (xs : List Agent). AreAgents s.lines lives xs e.begun true) (sym agents)
              (subst (λ (bs : List (List (List ℕ))). AreAgents s.lines lives (h.before ++ fallen it ∷ []) bs true) (sym h.is_begun)
              (agents_more s.lines (take x.agent (lives_of s.life)) (h.steps ∷ []) h.before (fallen it ∷ []) h.begun ((recover_line ∷ []) ∷ []) true h.died
              (refl, inl (refl, refl), refl, refl)));
        }

    -- where the client had ended nothing is noted
    ended_same : (y : Playing) → Noted y → is_some x.end ≡ true → y ≡ x
    ended_same y noted some =
        elim noted [
          | inl n ↦ absurd (true≢false (sym some ∙ ap (λ (o : Option End). is_some o) n.0))
          | inr n ↦ n.1
        ]

    -- and where it hadn't, how it ended
    none_settles : (y : Playing) → Noted y → x.end ≡ None → (line : Line) × IsLine line × (y ≡ settles line x)
    none_settles y noted none =
        elim noted [
          | inl n ↦ n.1
          | inr n ↦ absurd (true≢false (sym n.0 ∙ ap (λ (o : Option End). is_some o) none))
        ]

    -- `some` tells whether one of them had begun: the first one acts or had died
    module _ (some : Bool) (acting : acts e.memo ≡ true → some ≡ true) (later : 0 < x.agent → some ≡ true) (first : acts e.memo ≡ false → x.agent ≡ 0 → some ≡ false) where
      pub cut_off : (y : Playing) → Noted y → IsCut some s (dead y) (account_cut e)
      cut_off y noted = go stands.stage
        where
          cut_by : (b : Bool) (z : Playing) (a : Account) → some ≡ b → y ≡ z → account_cut e ≡ a → IsCut b s (dead z) a → IsCut some s (dead y) (account_cut e)
          cut_by b z a tells same is h =
              subst (λ (c : Bool). IsCut c s (dead y) (account_cut e)) (sym tells)
              (subst (λ (w : Playing). IsCut b s (dead w) (account_cut e)) (sym same) (subst (IsCut b s (dead z)) (sym is) h))

          ended : (l : Option End) → x.end ≡ l → is_some l ≡ true → is_some x.end ≡ true
          ended l is some = ap (λ (o : Option End). is_some o) is ∙ some

          go : Stage start s x e → IsCut some s (dead y) (account_cut e)
          go (Fresh h) = let n = none_settles y noted h.end in cut_by false (settles n.0 x) e (first (quiet_fresh h) h.agent) n.2 (cut_still (quiet_fresh h)) (cut_fresh h n.0)
          go (Plays h) = let n = none_settles y noted h.end in cut_by true (settles n.0 x) (account_died e) (acting (acts_playing h)) n.2 (cut_here (acts_playing h)) (cut_playing h n.0 n.1)
          go (Parted h) = gone_not h.left
          go (Fallen h l) = cut_by true x e (later h.some) (ended_same y noted (ended (Some l.end) l.ended refl)) (cut_still (quiet_fallen h)) (cut_fallen h l)
          go (Mending h l) = cut_by true x (account_died e) (acting (acts_mending h)) (ended_same y noted (ended (Some l.end) l.ended refl)) (cut_here (acts_mending h)) (cut_mending h l)
          go (Mended h l) = gone_not h.recovered
