-- What the word steps of one identity keep, by the events among them that change the graph of references.
use Rattle.std.proofs.Common.{◌≡◌, ◌==◌, ℕ, ◌<◌, Bool, true, false, cond, append_assoc, List, [], ◌∷◌, ◌++◌, refl, sym, ap, ◌∙◌, subst, length}
use Rattle.std.proofs.lemmas.Bool.{cond-true, eq-eqb}
use Rattle.std.specs.List.{AllByRecursion, filter}
use Rattle.shm_words.specs.declared.geometry.Geometry.{Geometry}
use Rattle.shm_graph.specs.declared.{ask.Ask.Ask, memo.{Kind.Kind, Step.Step}, run.Move.Move}
use Rattle.shm_graph.specs.declared.{run.{Move.TheVariants.{Begins, Dies, Word}, Start.Start}, spot.Spot.Spot}
use Rattle.shm_graph.specs.{Asks.{at_of, words_after}, CallEvents.events_in}
use Rattle.shm_graph.specs.{Events.{Event, Nothing, Alloc, Up, Down, ChangeUp, ChangeDown, Free}, Held.HeldAt}
use Rattle.shm_graph.specs.Laws.{Stepped, event_on}
use Rattle.shm_graph.specs.Runs.{Held, Leads, State, account_at, account_entered, first_state, memos_of, moved}
use Rattle.shm_graph.specs.{Spots.{classes_in, see, spot_at}, Tells.is_event, Views.{View, view}}
use Rattle.shm_graph.proofs.Runs.{Going.acts_within, Lists.{memos_of-changed, see-words_set}, Running.view-at1}
use Rattle.shm_plain.specs.{Calls.{AreOf, Did, state_of}, Pools.{IsRun, Pool}}
use Rattle.shm_plain.proofs.OwnTurns.{leads_after}

-- a word step of the identity whose event is good keeps what the words and the memos show
abbrev pub StepsKeep : Geometry → ℕ → (Event → Type 0) → ((Spot → ℕ) → View → Type 0) → Type 0
StepsKeep g c Good P = (w w' : Spot → ℕ) (v v' : View) (a : Ask) (p : Spot) (e : Event) → c < g.clients → HeldAt g w v → Stepped g c a p e w v w' v' → w' ≡ words_after w a p → Good e → P w v → P w' v'

-- what a state shows
abbrev Shows : Geometry → ((Spot → ℕ) → View → Type 0) → State → Type 0
Shows g P s = P (see g s.words) (view (memos_of s.accounts))

-- the first of some events, where no event is good
first_good : (Good : Event → Type 0) → Good Nothing → (e : Event) (es : List Event) → AllByRecursion Good (filter is_event (e ∷ es)) → Good e × AllByRecursion Good (filter is_event es)
first_good Good quiet Nothing es all = (quiet, all)
first_good Good quiet (Alloc c k b) es all = all
first_good Good quiet (Up c p b) es all = all
first_good Good quiet (Down c p b) es all = all
first_good Good quiet (ChangeUp c p a b) es all = all
first_good Good quiet (ChangeDown c a) es all = all
first_good Good quiet (Free c b) es all = all

module _ (g : Geometry) (c : ℕ) (Good : Event → Type 0) (quiet : Good Nothing) (P : (Spot → ℕ) → View → Type 0) (keep : StepsKeep g c Good P) where
  -- a word step
  word_keeps : (s : State) (t : Step) (b : State) (ms : List Move) → Held g s.words s.accounts → t.me.who ≡ c → Leads g s (Word t ∷ ms) b → Good (event_on (memos_of s.accounts c) t (spot_at g (classes_in g s.words) (at_of t.ask))) → Shows g P s → Shows g P (moved s (Word t))
  word_keeps s t b ms h who run good shows =
      let q : Spot = spot_at g (classes_in g s.words) (at_of t.ask) in
      let step = run.1.event.one_event in
      let within : t.me.who < g.clients = subst (λ (n : ℕ). t.me.who < n) h.accounts (acts_within s.accounts t.me.who run.0.1) in
      let mine : Stepped g c t.ask q (event_on (memos_of s.accounts c) t q) (see g s.words) (view (memos_of s.accounts)) (see g (moved s (Word t)).words) (view (memos_of (moved s (Word t)).accounts)) =
      subst (λ (d : ℕ). Stepped g d t.ask q (event_on (memos_of s.accounts d) t q) (see g s.words) (view (memos_of s.accounts)) (see g (moved s (Word t)).words) (view (memos_of (moved s (Word t)).accounts))) who step in
      keep (see g s.words) (see g (moved s (Word t)).words) (view (memos_of s.accounts)) (view (memos_of (moved s (Word t)).accounts)) t.ask q _ (subst (λ (d : ℕ). d < g.clients) who within) h.at mine
      (see-words_set g s.words (view (memos_of s.accounts)) c t.ask q h.at h.words run.1.event.inside refl mine.allowed) good shows

  -- no part of a memo that the words are held against changes where an agent begins
  begins_keeps : (s : State) (d : ℕ) (k : Kind) → d < length s.accounts → Shows g P s → Shows g P (moved s (Begins d k))
  begins_keeps s d k long shows =
      subst (λ (v : View). P (see g s.words) v) (sym (ap view (memos_of-changed (account_entered k) s.accounts d long) ∙ view-at1 (memos_of s.accounts) d (account_entered k (account_at s.accounts d)).memo refl)) shows

  -- a run
  pub turns_keep : (a : State) (ms : List Move) (b : State) → Held g a.words a.accounts → AreOf c ms → Leads g a ms b → AllByRecursion Good (filter is_event (events_in g c a ms)) → Shows g P a → Shows g P b
  turns_keep a [] b h own run good shows = subst (Shows g P) run shows
  turns_keep a (Word t ∷ ms) b h own run good shows =
      let e : Event = event_on (memos_of a.accounts c) t (spot_at g (classes_in g a.words) (at_of t.ask)) in
      let rest : List Event = events_in g c (moved a (Word t)) ms in
      let all = first_good Good quiet e rest (subst (λ (es : List Event). AllByRecursion Good (filter is_event es)) (cond-true (t.me.who == c) (e ∷ rest) rest (eq-eqb t.me.who c own.0)) good) in
      turns_keep (moved a (Word t)) ms b run.1.held own.1 run.2 all.1 (word_keeps a t b ms h own.0 run all.0 shows)
  turns_keep a (Begins d k ∷ ms) b h own run good shows = turns_keep (moved a (Begins d k)) ms b run.1.held own.1 run.2 good (begins_keeps a d k run.0.0 shows)
  turns_keep a (Dies d ∷ ms) b h own run good shows = absurd own

-- the turns by which a pool grew
pub did_leads : (c : ℕ) (p q : Pool) (es : List Event) → IsRun p → IsRun q → q.start ≡ p.start → (d : Did c p q es) → Leads p.start.geometry (state_of p) d.turns (state_of q)
did_leads c p q es hp hq start d =
    let g = p.start.geometry in
    let led : Leads g (first_state p.start) q.turns (state_of q) = subst (λ (s : Start). Leads s.geometry (first_state s) q.turns (state_of q)) start hq.leads in
    leads_after g (first_state p.start) p.turns d.turns (state_of p) (state_of q) hp.leads (subst (λ (ms : List Move). Leads g (first_state p.start) ms (state_of q)) d.grew led)

-- What word steps with good events keep, a pool keeps that the identity's turns alone made grow, with good events
pub did_keeps : (c : ℕ) (p q : Pool) (es : List Event) → IsRun p → IsRun q → q.start ≡ p.start → Did c p q es → (Good : Event → Type 0) → Good Nothing → (P : (Spot → ℕ) → View → Type 0) → StepsKeep p.start.geometry c Good P → AllByRecursion Good es → Shows p.start.geometry P (state_of p) → Shows p.start.geometry P (state_of q)
did_keeps c p q es hp hq start d Good quiet P keep good shows =
    turns_keep p.start.geometry c Good quiet P keep (state_of p) d.turns (state_of q) hp.held d.own (did_leads c p q es hp hq start d) (subst (AllByRecursion Good) (sym d.events) good) shows

-- ---- one call after another

module _ (g : Geometry) (c : ℕ) where
  own_append : (ms ns : List Move) → AreOf c ms → AreOf c ns → AreOf c (ms ++ ns)
  own_append [] ns a b = b
  own_append (Word t ∷ ms) ns a b = (a.0, own_append ms ns a.1 b)
  own_append (Begins d k ∷ ms) ns a b = (a.0, own_append ms ns a.1 b)
  own_append (Dies d ∷ ms) ns a b = absurd a

  -- one more event
  event_more : (e : Event) (xs ys zs : List Event) → filter is_event xs ≡ filter is_event ys ++ zs → filter is_event (e ∷ xs) ≡ filter is_event (e ∷ ys) ++ zs
  event_more e xs ys zs eq = by (is_event e)
    where
      by : (z : Bool) → cond z (e ∷ filter is_event xs) (filter is_event xs) ≡ cond z (e ∷ filter is_event ys) (filter is_event ys) ++ zs
      by true = ap (λ us. e ∷ us) eq
      by false = eq

  step_more : (z : Bool) (e : Event) (xs ys zs : List Event) → filter is_event xs ≡ filter is_event ys ++ zs → filter is_event (cond z (e ∷ xs) xs) ≡ filter is_event (cond z (e ∷ ys) ys) ++ zs
  step_more true e xs ys zs eq = event_more e xs ys zs eq
  step_more false e xs ys zs eq = eq

  events_append : (a : State) (ms ns : List Move) (b : State) → AreOf c ms → Leads g a ms b → filter is_event (events_in g c a (ms ++ ns)) ≡ filter is_event (events_in g c a ms) ++ filter is_event (events_in g c b ns)
  events_append a [] ns b own l = ap (λ (s : State). filter is_event (events_in g c s ns)) l
  events_append a (Word t ∷ ms) ns b own l =
      step_more (t.me.who == c) (event_on (memos_of a.accounts c) t (spot_at g (classes_in g a.words) (at_of t.ask))) (events_in g c (moved a (Word t)) (ms ++ ns)) (events_in g c (moved a (Word t)) ms) (filter is_event (events_in g c b ns))
      (events_append (moved a (Word t)) ms ns b own.1 l.2)
  events_append a (Begins d k ∷ ms) ns b own l = events_append (moved a (Begins d k)) ms ns b own.1 l.2
  events_append a (Dies d ∷ ms) ns b own l = absurd own

pub did_then : (c : ℕ) (p m q : Pool) (es fs : List Event) → IsRun p → IsRun m → m.start ≡ p.start → Did c p m es → Did c m q fs → Did c p q (es ++ fs)
did_then c p m q es fs hp hm start x y =
    let g : Geometry = p.start.geometry in
    let later : filter is_event (events_in g c (state_of m) y.turns) ≡ fs = ap (λ (s : Start). filter is_event (events_in s.geometry c (state_of m) y.turns)) (sym start) ∙ y.events in
    record {
      turns = x.turns ++ y.turns;
      grew = y.grew ∙ (ap (λ ms. ms ++ y.turns) x.grew ∙ append_assoc p.turns x.turns y.turns);
      own = own_append g c x.turns y.turns x.own y.own;
      events = events_append g c (state_of p) x.turns y.turns (state_of m) x.own (did_leads c p m es hp hm start x) ∙ (ap (λ us. us ++ filter is_event (events_in g c (state_of m) y.turns)) x.events ∙ ap (λ us. es ++ us) later);
    }
