-- versions of a map by maps
use Rattle.std.proofs.Common.{◌≡◌, ℕ, ◌<◌, ◌==◌, Bool, List, [], ◌∷◌, ◌++◌, length, map, refl, sym, ap, ◌∙◌, subst, eq-eqb, ne_eqb, length-set}
use Rattle.std.proofs.lemmas.List.{get_or-map, get_or-replicate, get_or-set_other, get_or-set_same}
use Rattle.std.specs.{Prelude.{if◌then◌else◌, IfSome, None, Option, Some, slice_index, slice_set}, List.AllByRecursion}
use Rattle.std.specs.Option.{is_some}
use mathlib.Core.Logic.{dite}
use native.Mathlib.Decide.{ℕ_discrete}
use Rattle.shm_tree.specs.declared.line.{TreeAnswer.TreeAnswer, TreeLine.TreeLine}
use Rattle.shm_tree.specs.Forests.{Forested, IsAnswered, MayBeDone, version, versions_after, versions_by}
use Rattle.shm_tree.specs.{ScriptTexts.{IsScript, LineFits}, Scripts.TreeScripted}
use Rattle.shm_tree.specs.Trees.{Empty, InsertsWell, IsBalanced, IsSearch, RemovesWell, Tree, found, inserted, removed, size}
use Rattle.shm_tree.specs.declared.line.TreeAnswer.TheVariants as answers
use Rattle.shm_tree.specs.declared.line.TreeLine.TheVariants as lines
use Rattle.shm_versions.specs.declared.treed.{Holding.Holding, Treed.Treed}
use Rattle.shm_versions.specs.TreeRuns.{AreAnswered, ForestHolds, HasRoom, IsEnding, IsTreeRun, first_versions, versions_of}
use Rattle.shm_outcomes.specs.Maps.{AnswerFits, AnswersFit, AreSizesOf, HasKeys, IsDoneOn, Maps, TellsMaps, maps_after, maps_by, maps_of, no_maps, with_key, with_map}
use Rattle.shm_outcomes.proofs.{Keying.has_keys, Spending.life_spent}

-- a balanced search tree with the numbers of a map
pub record Shows (t : Tree) (f : ℕ → Option ℕ) : Type 0 where
  pub search : IsSearch t
  pub balanced : IsBalanced t
  pub same : (k : ℕ) → found k t ≡ f k

-- twelve versions with the numbers of twelve maps
pub record ShowAll (ts : List Tree) (fs : Maps) : Type 0 where
  pub long : length ts ≡ 12
  pub each : (at : ℕ) → at < 12 → Shows (version ts at) (fs at)

some_line : (l : TreeLine) (ls : List TreeLine) → l ∷ ls ≡ [] → ⊥
some_line l ls e = absurd (cc)

empty_shows : Shows Empty (λ k. None)
empty_shows = record { search = tt; balanced = tt; same = λ k. refl }

-- one version more
set_shows : (ts : List Tree) (fs : Maps) (to : ℕ) (t : Tree) (f : ℕ → Option ℕ) → to < 12 → ShowAll ts fs → Shows t f → ShowAll (slice_set ts to t) (with_map to f fs)
set_shows ts fs to t f low h new =
    record {
      long = length-set ts to t ∙ h.long;
      each = λ at below.
          dite (ℕ_discrete at to)
          (λ same. subst (λ (x : Tree). Shows x (with_map to f fs at)) (sym (ap (version (slice_set ts to t)) same ∙ get_or-set_same ts to t Empty (subst (λ (n : ℕ). to < n) (sym h.long) low)))
          (subst (Shows t) (sym (ap (λ (b : Bool). if b then f else fs at) (eq-eqb at to same))) new))
          (λ other. subst (λ (x : Tree). Shows x (with_map to f fs at)) (sym (get_or-set_other ts to at t Empty other))
          (subst (Shows (version ts at)) (sym (ap (λ (b : Bool). if b then f else fs at) (ne_eqb at to other))) (h.each at below)));
    }

module _ (inserts : InsertsWell) (removes : RemovesWell) where
  insert_shows : (t : Tree) (f : ℕ → Option ℕ) (k n : ℕ) → Shows t f → Shows (inserted k n t) (with_key k (Some n) f)
  insert_shows t f k n h =
      let x = (inserts k n t h.search h.balanced).0 in
      record { search = x.search; balanced = x.balanced; same = λ z. x.map z ∙ ap (λ (o : Option ℕ). if z == k then Some n else o) (h.same z) }

  remove_shows : (t : Tree) (f : ℕ → Option ℕ) (k : ℕ) → Shows t f → Shows (removed k t) (with_key k None f)
  remove_shows t f k h =
      let x = (removes k t h.search h.balanced).0 in
      record { search = x.search; balanced = x.balanced; same = λ z. x.map z ∙ ap (λ (o : Option ℕ). if z == k then None else o) (h.same z) }

  -- ---- a line

  done_shows : (l : TreeLine) (ts : List Tree) (fs : Maps) → LineFits l → ShowAll ts fs → ShowAll (versions_after l ts) (maps_after l fs)
  done_shows (lines.Set to from k n) ts fs fit h = set_shows ts fs to (inserted k n (version ts from)) (with_key k (Some n) (fs from)) fit.0 h (insert_shows (version ts from) (fs from) k n (h.each from fit.1))
  done_shows (lines.Del to from k) ts fs fit h = set_shows ts fs to (removed k (version ts from)) (with_key k None (fs from)) fit.0 h (remove_shows (version ts from) (fs from) k (h.each from fit.1))
  done_shows (lines.Get at k) ts fs fit h = h
  done_shows (lines.Copy to from) ts fs fit h = set_shows ts fs to (version ts from) (fs from) fit.0 h (h.each from fit.1)
  done_shows (lines.Clear at) ts fs fit h = set_shows ts fs at Empty (λ k. None) fit h empty_shows

  shows_by : (l : TreeLine) (ts : List Tree) (fs : Maps) (a : TreeAnswer) → LineFits l → ShowAll ts fs → ShowAll (versions_by l ts a) (maps_by l fs a)
  shows_by l ts fs answers.Ok fit h = done_shows l ts fs fit h
  shows_by l ts fs (answers.Value n) fit h = h
  shows_by l ts fs answers.Missing fit h = h
  shows_by l ts fs (answers.Full s b) fit h = h
  shows_by l ts fs (answers.CountFull b c) fit h = h
  shows_by l ts fs (answers.EraSpent e) fit h = h

  done_fits : (l : TreeLine) (ts : List Tree) (fs : Maps) → LineFits l → ShowAll ts fs → MayBeDone l ts → IsDoneOn l fs
  done_fits (lines.Set to from k n) ts fs fit h may = tt
  done_fits (lines.Del to from k) ts fs fit h may = sym (ap is_some ((h.each from fit.1).same k)) ∙ may
  done_fits (lines.Get at k) ts fs fit h may = may
  done_fits (lines.Copy to from) ts fs fit h may = tt
  done_fits (lines.Clear at) ts fs fit h may = tt

  fits_by : (l : TreeLine) (ts : List Tree) (fs : Maps) (a : TreeAnswer) → LineFits l → ShowAll ts fs → HasRoom a → IsAnswered l ts a → AnswerFits l fs a
  fits_by l ts fs answers.Ok fit h room may = done_fits l ts fs fit h may
  fits_by (lines.Get at k) ts fs (answers.Value n) fit h room may = sym ((h.each at fit.0).same k) ∙ may
  fits_by (lines.Set to from k n) ts fs (answers.Value m) fit h room may = may
  fits_by (lines.Del to from k) ts fs (answers.Value m) fit h room may = may
  fits_by (lines.Copy to from) ts fs (answers.Value m) fit h room may = may
  fits_by (lines.Clear at) ts fs (answers.Value m) fit h room may = may
  fits_by (lines.Get at k) ts fs answers.Missing fit h room may = sym ((h.each at fit.0).same k) ∙ may
  fits_by (lines.Del to from k) ts fs answers.Missing fit h room may = sym ((h.each from fit.1).same k) ∙ may
  fits_by (lines.Set to from k n) ts fs answers.Missing fit h room may = may
  fits_by (lines.Copy to from) ts fs answers.Missing fit h room may = may
  fits_by (lines.Clear at) ts fs answers.Missing fit h room may = may
  fits_by l ts fs (answers.Full s b) fit h room may = may
  fits_by l ts fs (answers.CountFull b c) fit h room may = may
  fits_by l ts fs (answers.EraSpent e) fit h room may = room

  -- ---- lines

  all_fit : (ls : List TreeLine) (bs : List TreeAnswer) (ts : List Tree) (fs : Maps) → AllByRecursion LineFits ls → AllByRecursion HasRoom bs → ShowAll ts fs → AreAnswered ls bs ts → AnswersFit ls bs fs
  all_fit [] [] ts fs fit room h may = tt
  all_fit [] (a ∷ bs) ts fs fit room h may = absurd may
  all_fit (l ∷ ls) [] ts fs fit room h may = absurd may
  all_fit (l ∷ ls) (a ∷ bs) ts fs fit room h may =
      (fits_by l ts fs a fit.0 h room.0 may.0, all_fit ls bs (versions_by l ts a) (maps_by l fs a) fit.1 room.1 (shows_by l ts fs a fit.0 h) may.1)

  all_show : (ls : List TreeLine) (bs : List TreeAnswer) (ts : List Tree) (fs : Maps) → AllByRecursion LineFits ls → ShowAll ts fs → ShowAll (versions_of ls bs ts) (maps_of ls bs fs)
  all_show [] bs ts fs fit h = h
  all_show (l ∷ ls) [] ts fs fit h = h
  all_show (l ∷ ls) (a ∷ bs) ts fs fit h = all_show ls bs (versions_by l ts a) (maps_by l fs a) fit.1 (shows_by l ts fs a fit.0 h)

  -- ---- a run

  first_show : ShowAll first_versions no_maps
  first_show = record { long = refl; each = λ at low. subst (λ (t : Tree). Shows t (λ k. None)) (sym (get_or-replicate 12 at Empty Empty low)) empty_shows }

  fits_front : (done rest : List TreeLine) → AllByRecursion LineFits (done ++ rest) → AllByRecursion LineFits done
  fits_front [] rest h = tt
  fits_front (l ∷ ls) rest h = (h.0, fits_front ls rest h.1)

  size_at : (ts : List Tree) (at : ℕ) → at < length ts → slice_index (map size ts) at ≡ size (version ts at)
  size_at ts at low = get_or-map size ts at Empty 0 low

  sizes_of : (ts : List Tree) (fs : Maps) (h : Holding) → h.sizes ≡ map size ts → ShowAll ts fs → AreSizesOf fs h
  sizes_of ts fs h is all at low =
      let x = all.each at low in
      subst (λ (n : ℕ). HasKeys n (fs at)) (sym (ap (λ (ns : List ℕ). slice_index ns at) is ∙ size_at ts at (subst (λ (n : ℕ). at < n) (sym all.long) low))) (has_keys (version ts at) (fs at) x.search x.same)

  if_holds : (o : Option Holding) (f : Forested) (ts : List Tree) (fs : Maps) → ShowAll ts fs → IfSome o (ForestHolds f ts) → IfSome o (AreSizesOf fs)
  if_holds None f ts fs all h = tt
  if_holds (Some x) f ts fs all h = sizes_of ts fs x h.sizes all

  pub tells_maps : (s : TreeScripted) (r : Treed) → IsScript s → IsTreeRun s r → TellsMaps s r
  tells_maps s r script run =
      let p = run.played in
      let fit = fits_front p.done p.rest (subst (AllByRecursion LineFits) p.all script.lines) in
      record {
        done = p.done;
        rest = p.rest;
        all = p.all;
        answered = all_fit p.done r.answers.items first_versions no_maps fit run.unspent first_show run.answered;
        whole = λ all. (subst (λ (b : Bool). IsEnding b p.rest p.last run.final p.left) all p.ending).none;
        cut = λ none empty. let x = subst (λ (b : Bool). IsEnding b p.rest p.last run.final p.left) none p.ending in some_line x.line x.more (sym x.cut ∙ empty);
        spent = λ none. life_spent s r run none;
        sizes = if_holds r.holding p.last (versions_of p.done r.answers.items first_versions) (maps_of p.done r.answers.items no_maps) (all_show p.done r.answers.items first_versions no_maps fit first_show) run.holding;
      }
