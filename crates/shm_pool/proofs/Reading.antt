-- the status word is that of the memo, and reading it changes nothing
use Rattle.std.proofs.Common.{◌≡◌, ℕ, ◌<◌, true, List, [], ◌∷◌, set, refl, sym, ap, ◌∙◌, subst, arith}
use Rattle.std.proofs.lemmas.{Bool.lt-ltb, List.set-get_or}
use Rattle.std.specs.Prelude.{slice_index}
use mathlib.Core.Option.{some}
use lib.ListN.{get_elem?}
use Rattle.atomic_table.specs.Table.{Me as Mine, keeps as nothing, Allows}
use Rattle.shm_words.specs.Layout.{address, is_in}
use Rattle.shm_words.specs.declared.place.Place.TheVariants as place
use Rattle.shm_graph.specs.declared.{memo.Status.{Status, TheVariants.Gone}, run.{Account.Account, Start.Start}}
use Rattle.shm_graph.specs.{Held.status_word, Spots.{classes_in, spot_address}}
use Rattle.shm_graph.specs.declared.spot.Spot.TheVariants as spot
use Rattle.shm_graph.proofs.Spots.{Seeing.see_there, SpotPlaces.status_at}
use Rattle.shm_pool.specs.Rules.{Rule, head_account}
use Rattle.shm_pool.proofs.Counts.{count_set, known_set, knows_at}

-- the word at the status of an identity of a view
status_there : (s : Start) (ws : List ℕ) (views : List (List Account)) (id : ℕ) (e : Account) (r : Rule s ws views) → get_elem? views id ≡ some (e ∷ []) → e.who < s.geometry.clients → slice_index ws (address s.geometry (place.Status e.who)) ≡ status_word e.memo.status
unfolding spot_address
status_there s ws views id e r at lt =
    let here = (knows_at r.accounts views id (e ∷ []) r.known at).0 in
    let within : is_in s.geometry (place.Status e.who) ≡ true = lt-ltb e.who s.geometry.clients lt in
    sym (see_there s.geometry ws (spot.Status e.who) (status_at s.geometry (classes_in s.geometry ws) e.who within))
    ∙ (sym (r.held.at.state e.who lt) ∙ ap (λ (z : Account). status_word z.memo.status) here.1)

-- what the table asks of such a load
pub read_at : (s : Start) (slots id : ℕ) (e : Account) (me : Mine (Unit {0}) (List Account)) → me ≡ (e ∷ [], []) → e.who < s.geometry.clients → (a : ℕ) → a ≡ address s.geometry (place.Status e.who)
    → Allows {S = Unit {0}} (λ z. Rule s z.words z.views) slots id me a (λ n. n) (λ n w. (w.0 ≡ me.0) × (w.1 ≡ me.1) × (n ≡ status_word (head_account me.0).memo.status))
read_at s slots id e me alone lt a is z r _ at _ =
    let view : me.0 ≡ e ∷ [] = ap (λ (y : Mine (Unit {0}) (List Account)). y.0) alone in
    let here : get_elem? z.views id ≡ some (e ∷ []) = at ∙ ap some view in
    let same : Rule s z.words (set z.views id (e ∷ [])) =
    record {
      accounts = r.accounts;
      turns = r.turns;
      held = r.held;
      leads = r.leads;
      known = known_set r.accounts z.views id (e ∷ []) r.known (knows_at r.accounts z.views id (e ∷ []) r.known here);
      stands = λ c l. let n = count_set c z.views id (e ∷ []) (e ∷ []) here in let was = r.stands c l in omega (arith, n, was);
    } in (
      me.0,
      nothing,
      tt,
      subst (λ (v : List Account). Rule s (set z.words a (slice_index z.words a)) (set z.views id v)) (sym view) (subst (λ (ws : List ℕ). Rule s ws (set z.views id (e ∷ []))) (sym (set-get_or z.words a 0)) same),
      (refl, refl, ap (slice_index z.words) is ∙ (status_there s z.words z.views id e r here lt ∙ ap (λ (v : List Account). status_word (head_account v).memo.status) (sym view))),
    )

-- a status word of 3
pub word_gone : (s : Status) → status_word s ≡ 3 → s ≡ Gone
word_gone Gone e = refl
word_gone _ e = absurd (cc)
