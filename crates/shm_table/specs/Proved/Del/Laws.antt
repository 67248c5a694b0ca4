-- what is owed of removing a key of the own table
use Rattle.std.proofs.Common.{◌≡◌, ℕ, ◌+◌, ◌*◌, ◌%◌, ◌<◌, ◌≤◌, refl, sym, ap, ◌∙◌, subst, arith, append_assoc, append-nil, length, List, [], ◌∷◌, ◌++◌, inl, inr}
use Rattle.std.specs.{Prelude.{◌==◌, if◌then◌else◌, None, Some, Ok, Err}, List.{All, Contains}}
use Rattle.shm_words.specs.Layout.{total_of, address_limit}
use Rattle.shm_words.proofs.Placing.{total_small}
use Rattle.shm_graph.specs.declared.{ask.Me.Me, memo.Memo.Memo, spot.Spot.TheVariants.{Body, Era, Home}}
use Rattle.shm_graph.specs.{declared.table.Part.Part as TablePart, Agents.recovers, Asks.{Trail, IsWithin}}
use Rattle.shm_graph.specs.{Bounds.{change_steps, tear_steps, redo_steps}, Events.Event, Views.own_word}
use Rattle.plans.specs.{declared.or.Or.TheVariants.{First, Second}, Proved.{CallTells.within_more, Either.or_part_laws}}
use Rattle.plans.specs.{CallsPart.{calls_part, calls_part_laws}, Either.{or_control, or_part}, Parts.IsHeld}
use Rattle.plans.specs.{Plans.{PlanLaws, PlanStays, IsCall, Follows}, Words.word_control}
use Rattle.kind_parts.specs.{Beginning.IsOwnWord, Reparting.{sight, map_in}}
use Rattle.kind_parts.proofs.{Partitions.{Seeking.seek_own, Walked.walk_has}, Words.Blocks.told_inside}
use Rattle.shm_count.specs.declared.{answer.UpFault.{UpFault, TheVariants.{CountFull, EraSpent}}, point.Aim.Aim}
use Rattle.shm_count.specs.{Slots.StepCause, Tear.Events.{Visit, frees}}
use Rattle.shm_script.specs.declared.log.Answer.{Answer}
use Rattle.shm_script.specs.declared.log.Answer.TheVariants as answer
use Rattle.shm_table.specs.declared.del.{DelPoint.{DelPoint, TheVariants.{Search, Cut, Back}}, DelState.DelState}
use Rattle.shm_table.specs.declared.find.Found.{Found, TheVariants.{Absent, At}}
use Rattle.shm_table.specs.Del.Control.{DelCallAnswer, del_call_at, del_parts, deleting, is_search}
use Rattle.shm_table.specs.Del.{DelKnows, DelSays, IsLocated, IsSearched, IsSettled, MayDel, NotDeleted, del_part, del_plan}
use Rattle.shm_table.specs.{Answers.{fault_answer, raised_fault}, Find.{Bound.{IsWhole, keys_read}, Control.Passed}}
use Rattle.shm_table.specs.{Find.OnlyReads, Proved.Find.Bound.find_within}
use Rattle.shm_table.specs.Proved.Locate.Laws.{find_only, locate_begin, locate_laws}
use Rattle.shm_table.specs.Proved.Staying.Laws.{cleared_more, keeps_latched, keeps_more, keeps_read, keeps_unlatched, latched_else, rests_read, same_map, spent_later, unlatched_else}
use Rattle.shm_table.specs.Proved.{Unlatch.Laws.{unlatch_begin, unlatch_laws}, Unlink.Laws.unlink_laws}
use Rattle.shm_table.specs.Proved.{ValuesListed.idle_here, Costs.tear_same}
use Rattle.shm_table.specs.Locate.{Control.{locate_parts, locate_control}, Located, locate_plan}
use Rattle.shm_table.specs.{Staying.{Cleared, Ended, Keeps}, Unlatch.{Unlatched, unlatch_plan, Control.unlatch_control}}
use Rattle.shm_table.specs.Unlink.Control.{unlink_parts, unlink_control}
use Rattle.shm_table.specs.Unlink.{MayUnlink, NotUnlinked, Unlinked, UnlinkCause, UnlinkEvents, link_aim, unlink_plan}

-- ---- the search

module _ (me : Me) (key : ℕ) (r0 r : Memo) (tr : Trail) (es : List Event) (b : Found) (may : MayDel me r0) (h : Located me me.who key r0 r tr es b) where
  reads : OnlyReads h.latched r
  reads = (find_only me me.who key h.latched r h.after es b h.found).0

  latched_keeps : Keeps me.who r0 h.latched
  latched_keeps = keeps_latched me.who me.who r0 h.latched may.idle h.took

  found_keeps : Keeps me.who r0 r
  found_keeps = keeps_more me.who r0 h.latched r latched_keeps (keeps_read me.who h.latched r latched_keeps.idle reads)

  -- the own latch is held
  found_latch : r.latch ≡ Some me.who
  found_latch = ap (λ (x : Memo). x.latch) reads.memo ∙ (latched_else me.who me.who r0 h.latched h.took).0

  -- the own home, the partition, the roots and the zero-count blocks are as they were
  found_home : own_word r.own (Home me.who) ≡ own_word r0.own (Home me.who)
  found_home = (rests_read me.who h.latched r reads).home ∙ (latched_else me.who me.who r0 h.latched h.took).1

  found_part : r.part ≡ r0.part
  found_part = (rests_read me.who h.latched r reads).part ∙ (latched_else me.who me.who r0 h.latched h.took).2

  found_cleared : Cleared me.who r0 r
  found_cleared = cleared_more me.who r0 h.latched r (latched_else me.who me.who r0 h.latched h.took).3 (rests_read me.who h.latched r reads).cleared

  -- what was read
  short : (ps : List Passed) × IsWhole me me.who key ps h.after b × IsWithin (2 + 2 * keys_read ps b) h.after
  short = find_within me me.who key h.latched r h.after es b h.found

  abbrev searched : IsSearched me key b tr
  searched = record { tries = h.before; search = h.after; rest = []; trail = h.trail ∙ ap (λ (x : Trail). h.before ++ x) (sym (append-nil h.after)); read = short.0; whole = short.1 }

  within : IsWithin (4 + 2 * keys_read short.0 b) tr
  within = subst (IsWithin (4 + 2 * keys_read short.0 b)) (sym h.trail) (let w = within_more 2 (2 + 2 * keys_read short.0 b) h.before h.after h.bound short.2 in omega arith)

-- why a count step is refused that follows
cause_before : (me : Me) (key : ℕ) (x : Aim) (r0 r : Memo) (tr : Trail) (es : List Event) (b : Found) (f : UpFault) → MayDel me r0 → Located me me.who key r0 r tr es b → StepCause me x r f → StepCause me x r0 f
cause_before me key x r0 r tr es b (EraSpent e) may h (is, late) =
    let same : own_word r.own (Era me.who me.who) ≡ own_word h.latched.own (Era me.who me.who) = ap (λ (y : Memo). own_word y.own (Era me.who me.who)) (reads me key r0 r tr es b may h).memo in
    (is ∙ (same ∙ h.took.own (Era me.who me.who) refl), late)
cause_before me key x r0 r tr es b (CountFull d n) may h cause = cause

-- no entry has the key
missing : (me : Me) (key home first : ℕ) (r0 r : Memo) (tr : Trail) (es : List Event) → MayDel me r0 → Located me me.who key r0 r tr es (Absent home first) → IsHeld me r → IsSettled me key r0 r tr es answer.Missing
missing me key home first r0 r tr es may h held =
    let part = found_part me key r0 r tr es (Absent home first) may h in
    record {
      may = may;
      idle = h.idle;
      latch = found_latch me key r0 r tr es (Absent home first) may h;
      holds = held;
      says = record {
        directory = home;
        first = first;
        searched = searched me key r0 r tr es (Absent home first) may h;
        ends = h.found.ends;
        absent = ap (λ (o : TablePart). map_in o key) (sym part) ∙ h.found.absent refl;
        keeps = found_keeps me key r0 r tr es (Absent home first) may h;
        home = found_home me key r0 r tr es (Absent home first) may h;
        cleared = found_cleared me key r0 r tr es (Absent home first) may h;
        map = same_map r0 r part;
        none = h.none;
        bound = let w = within me key r0 r tr es (Absent home first) may h in omega arith;
      };
    }

-- a word that its identity may store lies in the pool
own_inside : (me : Me) (r : Memo) (d i x : ℕ) → me.who < me.geometry.clients → IsHeld me r → IsOwnWord me.geometry.wide me.who r d i x → d + 2 + i < total_of me.geometry
own_inside me r d i x l held own = let k = told_inside me r own.told.0 l held own.told.1 in let e = own.told.2 in let low = own.told.3 in omega arith

-- the entry has it: its block and the one that leads there are addresses
found_small : (me : Me) (key entry before word : ℕ) (r0 r : Memo) (tr : Trail) (es : List Event) → MayDel me r0 → Located me me.who key r0 r tr es (At entry before word) → IsHeld me r → (entry < address_limit) × (before < address_limit)
found_small me key entry before word r0 r tr es may h held =
    let total = total_small me.geometry may.geometry in
    let room = h.found.room in
    let o = h.found.own refl in
    let end = own_inside me r before word entry may.who held (seek_own me.geometry.wide me.who r key o.0 (Body before word) entry before word o.1 (o.2 ∷ o.3) h.idle.op o.4 refl) in
    (omega arith, omega arith)

-- ---- the entry goes

-- the entry that was found may be taken out
pub found_unlinks : (me : Me) (key entry before word : ℕ) (r0 r : Memo) (tr : Trail) (es : List Event) → IsLocated me key entry before word r0 r tr es → MayUnlink me key entry before word r
found_unlinks me key entry before word r0 r tr es h =
    let f = h.located.found in
    record { geometry = h.may.geometry; who = h.may.who; idle = h.located.idle; client = h.client; found = f.own refl; some = f.some; room = f.room; here = f.here }

-- so the answer says that the count step was refused
says_refused : (me : Me) (key steps : ℕ) (m r : Memo) (tr : Trail) (es : List Event) (f : UpFault) → NotDeleted me key steps m r tr es f → DelSays me key steps m r tr es (fault_answer (raised_fault f))
says_refused me key steps m r tr es (EraSpent e) h = h
says_refused me key steps m r tr es (CountFull b n) h = h

module _ (me : Me) (key entry before word : ℕ) (r0 rs r : Memo) (tr t : Trail) (es ds : List Event) (h : IsLocated me key entry before word r0 rs tr es) (held : IsHeld me r) where
  abbrev b : Found
  b = At entry before word

  abbrev looked : IsSearched me key b tr
  looked = searched me key r0 rs tr es b h.may h.located

  abbrev asked : IsSearched me key b (tr ++ t)
  asked = record { tries = looked.tries; search = looked.search; rest = t; trail = ap (λ (x : Trail). x ++ t) h.located.trail ∙ append_assoc looked.tries looked.search t; read = looked.read; whole = looked.whole }

  had : (n : ℕ) × (v : ℕ) × (map_in r0.part key ≡ Some (n, v))
  had =
      let o = h.located.found.own refl in
      let has = walk_has (sight me.who rs) key (Body before word) entry o.1 o.2 o.3 o.4.walk o.5 in
      (o.2.number, o.2.value, ap (λ (x : TablePart). map_in x key) (sym (found_part me key r0 rs tr es b h.may h.located)) ∙ has.1)

  quiet : es ++ ds ≡ ds
  quiet = ap (λ (x : List Event). x ++ ds) h.located.none

  cut_done : Unlinked me entry before word rs r t ds → IsSettled me key r0 r (tr ++ t) (es ++ ds) answer.Ok
  cut_done u =
      let part = found_part me key r0 rs tr es b h.may h.located in
      let cleared = found_cleared me key r0 rs tr es b h.may h.located in
      record {
        may = h.may;
        idle = u.keeps.idle;
        latch = u.latch ∙ found_latch me key r0 rs tr es b h.may h.located;
        holds = held;
        says = record {
          entry = entry;
          before = before;
          word = word;
          searched = asked;
          keeps = keeps_more me.who r0 rs r (found_keeps me key r0 rs tr es b h.may h.located) u.keeps;
          home = u.home ∙ found_home me key r0 rs tr es b h.may h.located;
          roots = λ j. u.roots j ∙ cleared.roots j;
          was = had;
          map = λ k. u.map key (found_unlinks me key entry before word r0 rs tr es h) k ∙ ap (λ (x : TablePart). if key == k then None else map_in x k) part;
          left = u.left;
          dying = u.dying;
          ended = elim u.ended [ inl y ↦ inl (cleared_more me.who r0 rs r cleared y) | inr y ↦ inr y ];
          events = subst (λ (x : List Event). UnlinkEvents me entry before word x u.left) (sym quiet) u.events;
          bound = let f = ap frees quiet in let torn = tear_same me.geometry.wide (frees (es ++ ds) + length u.left) (frees ds + length u.left) (omega arith) in let w = within_more (4 + 2 * keys_read looked.read b) (1 + change_steps me.geometry.wide + tear_steps me.geometry.wide (frees ds + length u.left)) tr t (within me key r0 rs tr es b h.may h.located) u.bound in omega arith;
        };
      }

  cut_refused : (f : UpFault) → NotUnlinked me entry rs r t ds f → IsSettled me key r0 r (tr ++ t) (es ++ ds) (fault_answer (raised_fault f))
  cut_refused f u =
      let part = found_part me key r0 rs tr es b h.may h.located in
      record {
        may = h.may;
        idle = u.keeps.idle;
        latch = u.latch ∙ found_latch me key r0 rs tr es b h.may h.located;
        holds = held;
        says = says_refused me key (17 + redo_steps me.geometry.wide) r0 r (tr ++ t) (es ++ ds) f (record {
          entry = entry;
          before = before;
          word = word;
          searched = asked;
          keeps = keeps_more me.who r0 rs r (found_keeps me key r0 rs tr es b h.may h.located) u.keeps;
          home = u.home ∙ found_home me key r0 rs tr es b h.may h.located;
          was = had;
          cleared = cleared_more me.who r0 rs r (found_cleared me key r0 rs tr es b h.may h.located) u.cleared;
          map = λ k. u.map k ∙ ap (λ (x : TablePart). map_in x k) part;
          cause = u.cause;
          refusal = (u.refusal.0, cause_before me key (link_aim entry u.refusal.0) r0 rs tr es b f h.may h.located u.refusal.1);
          none = quiet ∙ u.none;
          bound = let w = within_more (4 + 2 * keys_read looked.read b) (1 + change_steps me.geometry.wide) tr t (within me key r0 rs tr es b h.may h.located) u.bound in omega arith;
        });
      }

-- ---- the latch is given back

module _ (me : Me) (key : ℕ) (r0 rs r : Memo) (tr t : Trail) (es ds : List Event) (g : Unlatched me me.who rs r t ds) where
  -- the search is as it was
  abbrev still : (b : Found) → IsSearched me key b tr → IsSearched me key b (tr ++ t)
  still b s = record { tries = s.tries; search = s.search; rest = s.rest ++ t; trail = ap (λ (x : Trail). x ++ t) s.trail ∙ (append_assoc s.tries (s.search ++ s.rest) t ∙ ap (λ (x : Trail). s.tries ++ x) (append_assoc s.search s.rest t)); read = s.read; whole = s.whole }

  silent : es ++ ds ≡ es
  silent = ap (λ (x : List Event). es ++ x) g.none ∙ append-nil es

  two : IsWithin 2 t
  two = let n = ap length g.trail in omega arith

  abbrev As : (r.latch ≡ None) × (own_word r.own (Home me.who) ≡ own_word rs.own (Home me.who)) × (r.part ≡ rs.part) × Cleared me.who rs r
  As = unlatched_else me.geometry.wide me.who rs r g.memo

  cause_still : (f : UpFault) → own_word rs.own (Era me.who me.who) ≤ own_word r.own (Era me.who me.who) → UnlinkCause me rs f → UnlinkCause me r f
  cause_still (EraSpent e) grew h = spent_later me.who e rs r grew h
  cause_still (CountFull d n) grew h = h

  ended_still : own_word rs.own (Era me.who me.who) ≤ own_word r.own (Era me.who me.who) → Ended me.who r0 rs → Ended me.who r0 r
  ended_still grew h = elim h [ inl y ↦ inl (cleared_more me.who r0 rs r y As.3) | inr y ↦ inr (y.0, spent_later me.who y.0 rs r grew y.1) ]

  given : (a : Answer) → IsSettled me key r0 rs tr es a → (r.latch ≡ None) × DelSays me key (19 + redo_steps me.geometry.wide) r0 r (tr ++ t) (es ++ ds) a
  given a h = (g.latch, go a h.says)
    where
      later : Keeps me.who rs r
      later = keeps_unlatched me rs r h.idle h.holds h.may.who g.memo

      refused : (f : UpFault) → NotDeleted me key (17 + redo_steps me.geometry.wide) r0 rs tr es f → NotDeleted me key (19 + redo_steps me.geometry.wide) r0 r (tr ++ t) (es ++ ds) f
      refused f d =
          record {
            entry = d.entry;
            before = d.before;
            word = d.word;
            searched = still (At d.entry d.before d.word) d.searched;
            keeps = keeps_more me.who r0 rs r d.keeps later;
            home = As.1 ∙ d.home;
            was = d.was;
            cleared = cleared_more me.who r0 rs r d.cleared As.3;
            map = λ k. ap (λ (x : TablePart). map_in x k) As.2 ∙ d.map k;
            cause = cause_still f later.era d.cause;
            refusal = d.refusal;
            none = silent ∙ d.none;
            bound = let w = within_more (17 + redo_steps me.geometry.wide + 2 * keys_read d.searched.read (At d.entry d.before d.word)) 2 tr t d.bound two in omega arith;
          }

      go : (a : Answer) → DelSays me key (17 + redo_steps me.geometry.wide) r0 rs tr es a → DelSays me key (19 + redo_steps me.geometry.wide) r0 r (tr ++ t) (es ++ ds) a
      go answer.Ok d =
          record {
            entry = d.entry;
            before = d.before;
            word = d.word;
            searched = still (At d.entry d.before d.word) d.searched;
            keeps = keeps_more me.who r0 rs r d.keeps later;
            home = As.1 ∙ d.home;
            roots = λ j. As.3.roots j ∙ d.roots j;
            was = d.was;
            map = λ k. ap (λ (x : TablePart). map_in x k) As.2 ∙ d.map k;
            left = d.left;
            dying = subst (λ (xs : List ℕ). All (λ (x : Visit). Contains xs x.block) d.left) (sym As.3.dying) d.dying;
            ended = ended_still later.era d.ended;
            events = subst (λ (x : List Event). UnlinkEvents me d.entry d.before d.word x d.left) (sym silent) d.events;
            bound = let f = ap frees silent in let torn = tear_same me.geometry.wide (frees (es ++ ds) + length d.left) (frees es + length d.left) (omega arith) in let w = within_more (17 + redo_steps me.geometry.wide + 2 * keys_read d.searched.read (At d.entry d.before d.word) + tear_steps me.geometry.wide (frees es + length d.left)) 2 tr t d.bound two in omega arith;
          }
      go answer.Missing d =
          record {
            directory = d.directory;
            first = d.first;
            searched = still (Absent d.directory d.first) d.searched;
            ends = d.ends;
            absent = d.absent;
            keeps = keeps_more me.who r0 rs r d.keeps later;
            home = As.1 ∙ d.home;
            cleared = cleared_more me.who r0 rs r d.cleared As.3;
            map = λ k. ap (λ (x : TablePart). map_in x k) As.2 ∙ d.map k;
            none = silent ∙ d.none;
            bound = let w = within_more (17 + redo_steps me.geometry.wide + 2 * keys_read d.searched.read (Absent d.directory d.first)) 2 tr t d.bound two in omega arith;
          }
      go (answer.EraSpent e) d = refused (EraSpent e) d
      go (answer.CountFull b n) d = refused (CountFull b n) d
      go a d = absurd d

-- the search answered: what is so then
searched_absent : (me : Me) (key home first : ℕ) (r0 rs r : Memo) (tr t : Trail) (es ds : List Event) (a : Answer) → MayDel me r0 × (a ≡ answer.Missing) × (rs ≡ r0) × (tr ≡ []) × (es ≡ []) → Located me me.who key rs r t ds (Absent home first) → IsHeld me r → IsSettled me key r0 r (tr ++ t) (es ++ ds) answer.Missing
searched_absent me key home first r0 rs r tr t es ds a (may, said, same, none, quiet) g held =
    subst (λ (u : Trail). IsSettled me key r0 r (u ++ t) (es ++ ds) answer.Missing) (sym none)
    (subst (λ (u : List Event). IsSettled me key r0 r t (u ++ ds) answer.Missing) (sym quiet)
    (missing me key home first r0 r t ds may (subst (λ (x : Memo). Located me me.who key x r t ds (Absent home first)) same g) held))

searched_at : (me : Me) (key entry before word : ℕ) (r0 rs r : Memo) (tr t : Trail) (es ds : List Event) (a : Answer) → MayDel me r0 × (a ≡ answer.Missing) × (rs ≡ r0) × (tr ≡ []) × (es ≡ []) → Located me me.who key rs r t ds (At entry before word) → IsHeld me r → recovers r ≡ recovers rs
    → IsLocated me key (entry % address_limit) (before % address_limit) word r0 r (tr ++ t) (es ++ ds)
searched_at me key entry before word r0 rs r tr t es ds a (may, said, same, none, quiet) g held agent =
    let h : Located me me.who key r0 r t ds (At entry before word) = subst (λ (x : Memo). Located me me.who key x r t ds (At entry before word)) same g in
    let small = found_small me key entry before word r0 r t ds may h held in
    let low : entry % address_limit ≡ entry = (let s = small.0 in omega arith) in
    let near : before % address_limit ≡ before = (let s = small.1 in omega arith) in
    subst (λ (u : Trail). IsLocated me key (entry % address_limit) (before % address_limit) word r0 r (u ++ t) (es ++ ds)) (sym none)
    (subst (λ (u : List Event). IsLocated me key (entry % address_limit) (before % address_limit) word r0 r t (u ++ ds)) (sym quiet)
    (subst (λ x. IsLocated me key x (before % address_limit) word r0 r t ds) (sym low)
    (subst (λ x. IsLocated me key entry x word r0 r t ds) (sym near) (record { may = may; located = h; client = agent ∙ (ap recovers same ∙ may.client) }))))

-- ---- the plan

-- what is known before the first call
pub del_begin : (me : Me) (key : ℕ) (r : Memo) → MayDel me r → DelKnows (deleting me key) Search r r [] []
del_begin me key r may = (may, refl, refl, refl, refl)

pub del_laws : PlanLaws del_parts del_plan
del_laws =
    record {
      stays = λ m. stays m m.point;
      calls = λ m. calls m m.point;
      parts = λ m. let first = is_search m.point in
          or_part_laws first locate_control (or_control unlink_control unlatch_control) (calls_part locate_parts locate_plan) (or_part (calls_part unlink_parts unlink_plan) (calls_part word_control unlatch_plan)) (calls_part_laws locate_parts locate_plan locate_laws first)
          (or_part_laws first unlink_control unlatch_control (calls_part unlink_parts unlink_plan) (calls_part word_control unlatch_plan) (calls_part_laws unlink_parts unlink_plan unlink_laws first) (calls_part_laws word_control unlatch_plan unlatch_laws first));
      opens = λ m. opens m m.point;
      leads = λ m r0 rs r tr t es ds a h g held agent. leads m m.point r0 rs r tr t es ds a h g held agent;
    }
  where
    stays : (m : DelState) (y : DelPoint) (a : DelCallAnswer) → PlanStays del_parts del_plan (record m { point = y }) a
    stays m y (First (Absent home first)) = record { same_me = refl; same_line = refl; same_start = refl; started = λ e. refl }
    stays m y (Second (First (Ok done))) = record { same_me = refl; same_line = refl; same_start = refl; started = λ e. refl }
    stays m y (Second (Second done)) = record { same_me = refl; same_line = refl; same_start = refl; started = λ e. absurd (cc) }
    stays m y _ = record { same_me = refl; same_line = refl; same_start = refl; started = λ e. refl }

    calls : (m : DelState) (y : DelPoint) → IsCall del_parts del_plan (record m { point = y })
    calls m Search = record { me = refl; asks = refl }
    calls m _ = record { me = refl; asks = refl }

    opens : (m : DelState) (y : DelPoint) (r0 r : Memo) (tr : Trail) (es : List Event) → DelKnows (record m { point = y }) y r0 r tr es → del_part.needs (del_call_at m y) r
    opens m Search r0 r tr es (may, said, same, none, quiet) =
        let now : MayDel m.me r = subst (MayDel m.me) (sym same) may in
        record { made = refl; first = refl; start = refl; knows = locate_begin m.me m.me.who m.key r (record { geometry = now.geometry; who = now.who; author = now.who; idle = now.idle; none = now.none; table = now.table }) }
    opens m Cut r0 r tr es h = record { made = refl; first = refl; start = refl; knows = ((m.key, found_unlinks m.me m.key m.entry m.before m.word r0 r tr es h), refl, refl, refl) }
    opens m Back r0 r tr es h =
        record {
          made = refl;
          first = refl;
          start = refl;
          knows = unlatch_begin m.me m.me.who r (record { geometry = h.may.geometry; who = h.may.who; author = h.may.who; here = idle_here m.me.who r h.idle; idle = h.idle.op; latch = h.latch });
        }

    -- each call leads on
    leads : (m : DelState) (y : DelPoint) (r0 rs r : Memo) (tr t : Trail) (es ds : List Event) (a : DelCallAnswer) → DelKnows (record m { point = y }) y r0 rs tr es → del_part.leaves (del_call_at m y) rs r t ds a → IsHeld m.me r → recovers r ≡ recovers rs
        → Follows del_parts del_plan (record m { point = y }) a r0 r (tr ++ t) (es ++ ds)
    leads m Search r0 rs r tr t es ds (First (Absent home first)) h g held agent = searched_absent m.me m.key home first r0 rs r tr t es ds m.answer h g held
    leads m Search r0 rs r tr t es ds (First (At entry before word)) h g held agent = searched_at m.me m.key entry before word r0 rs r tr t es ds m.answer h g held agent
    leads m Cut r0 rs r tr t es ds (Second (First (Ok done))) h g held agent = cut_done m.me m.key m.entry m.before m.word r0 rs r tr t es ds h held g
    leads m Cut r0 rs r tr t es ds (Second (First (Err f))) h g held agent = cut_refused m.me m.key m.entry m.before m.word r0 rs r tr t es ds h held f g
    leads m Back r0 rs r tr t es ds (Second (Second done)) h g held agent = given m.me m.key r0 rs r tr t es ds g m.answer h
    leads m _ r0 rs r tr t es ds _ h g held agent = absurd g
