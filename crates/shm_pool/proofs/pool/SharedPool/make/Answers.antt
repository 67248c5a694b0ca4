use Rattle.std.proofs.Common.{List, ℕ, ◌≡◌, ◌-◌, ◌<◌, ◌+◌, ◌++◌, subst, sym, ap, ◌∙◌, [], ◌∷◌, take, drop, arith, inl, length}
use Rattle.atomic_table.specs.Table.{Me as Mine}
use Rattle.shm_words.specs.Layout.{total_of, place_at}
use Rattle.shm_graph.specs.{declared.run.{Account.Account, Start.Start}, Agents.acts}
use Rattle.shm_graph.specs.Runs.{first_words, first_word, first_account, accounts_from, Stood}
use Rattle.shm_graph.proofs.States.FirstHeld.{length-words_from}
use Rattle.shm_pool.specs.{Rules.{Rule, head_account}, Tokens.{Its, its, token_of, token_first, first_tokens, AllOf}}
use Rattle.shm_pool.proofs.{Opening.{opens, cut_as, first_cut, first_stood, first_tokens_more}, Ends.of_first}
use Rattle.shm_pool.proofs.pool.SharedPool.make.Goals.{After-split_seat-place}
use Rattle.shm_pool.proofs.pool.SharedPool.make.Goals as goal

long : (s : Start) (ws : List ℕ) → ws ≡ first_words s → length ws ≡ total_of s.geometry
long s ws e = ap (λ (z : List ℕ). length z) e ∙ length-words_from (λ a. first_word s.first_era (place_at s.geometry a)) 0 (total_of s.geometry)

pub of_words-requires : goal.of_words-requires
of_words-requires c = let s : Start = record { geometry = c.args.geometry; first_era = c.args.first_era; tables = c.args.tables } in
    subst (λ (ws : List ℕ). Rule s ws (accounts_from s 0 s.geometry.clients ∷ [])) (sym (c.as_slice.ensures.value ∙ c.in_ok-first.ensures)) (opens s c.requires.geometry c.requires.era)

pub split_seat-place-requires : goal.split_seat-place-requires
split_seat-place-requires c =
    let s : Start = record { geometry = c.args.geometry; first_era = c.args.first_era; tables = c.args.tables } in
    let n : ℕ = c.args.geometry.clients in
    let i : ℕ = c.loop-who.who in
    let lt : i < n = subst (λ (z : ℕ). i < z) c.clients-who-end.ensures c.loop-who-test.true in
    let v : c.loop-who.rest.me.0 ≡ first_account s i ∷ accounts_from s (i + 1) (n - (i + 1)) = ap (λ (m : Mine (Unit {0}) (List Account)). m.0) c.loop-who.invariant.view ∙ first_cut s n i lt in (
      c.loop-who.invariant.same_table,
      (let n : ℕ = c.in_ok-words.words.shared.table_id.words in let e : n ≡ total_of c.args.geometry = c.in_ok-words.ensures.0 ∙ long s _ (c.as_slice.ensures.value ∙ c.in_ok-first.ensures) in omega arith),
      cut_as c.in_ok-words.words.shared.key c.loop-who.rest.id c.loop-who.rest.me.0 (first_account s i) (accounts_from s (i + 1) (n - (i + 1))) v,
    )

came : (c : After-split_seat-place) → let s : Start = record { geometry = c.args.geometry; first_era = c.args.first_era; tables = c.args.tables } in c.split_seat-place.result.me ≡ (first_account s c.loop-who.who ∷ [], [])
came c =
    let s : Start = record { geometry = c.args.geometry; first_era = c.args.first_era; tables = c.args.tables } in
    let n : ℕ = c.args.geometry.clients in
    let i : ℕ = c.loop-who.who in
    let lt : i < n = subst (λ (z : ℕ). i < z) c.clients-who-end.ensures c.loop-who-test.true in
    let v : c.loop-who.rest.me.0 ≡ first_account s i ∷ accounts_from s (i + 1) (n - (i + 1)) = ap (λ (m : Mine (Unit {0}) (List Account)). m.0) c.loop-who.invariant.view ∙ first_cut s n i lt in
    c.split_seat-place.ensures.4 ∙ (λ j. (take 1 (v j), []))

pub invariant_of-push : goal.invariant_of-push
invariant_of-push c =
    let s : Start = record { geometry = c.args.geometry; first_era = c.args.first_era; tables = c.args.tables } in
    let r : c.split_seat-place.result.me ≡ (first_account s c.loop-who.who ∷ [], []) = came (goal.at.invariant_of-push c).After-split_seat-place in
    let lt : c.loop-who.who < c.args.geometry.clients = subst (λ (z : ℕ). c.loop-who.who < z) c.clients-who-end.ensures c.loop-who-test.true in
    let stood : Stood s (first_account s c.loop-who.who) = first_stood s c.loop-who.who c.requires.geometry c.requires.era lt in (
      record {
        is_alone = r ∙ sym (λ j. (head_account (r j).0 ∷ [], []));
        who = sym (λ j. (head_account (r j).0).who);
        below = lt;
        fits = c.requires.geometry;
        stood = subst (λ (v : Mine (Unit {0}) (List Account)). Stood s (head_account v.0)) (sym r) stood;
      },
      (inl (λ j. (head_account (r j).0).memo.status), (λ j. acts (head_account (r j).0).memo)),
    )

pub loop-who-preserved : goal.loop-who-preserved
loop-who-preserved c =
    let s : Start = record { geometry = c.args.geometry; first_era = c.args.first_era; tables = c.args.tables } in
    let n : ℕ = c.args.geometry.clients in
    let i : ℕ = c.loop-who.who in
    let lt : i < n = subst (λ (z : ℕ). i < z) c.clients-who-end.ensures c.loop-who-test.true in
    let v : c.loop-who.rest.me.0 ≡ first_account s i ∷ accounts_from s (i + 1) (n - (i + 1)) = ap (λ (m : Mine (Unit {0}) (List Account)). m.0) c.loop-who.invariant.view ∙ first_cut s n i lt in
    let w : c.loop-who.rest.me.1 ≡ [] = ap (λ (m : Mine (Unit {0}) (List Account)). m.1) c.loop-who.invariant.view in
    let r : c.split_seat-place.result.me ≡ (first_account s c.loop-who.who ∷ [], []) = came (goal.at.loop-who-preserved c).After-split_seat-place in
    let p : Its = its c.in_ok-words.words.shared.table_id s in
    let tbl : c.split_seat-place.result.table_id ≡ c.in_ok-words.words.shared.table_id = c.split_seat-place.ensures.3 ∙ c.loop-who.invariant.same_table in
    let zero_and : i ≡ 0 + i = omega arith in
    let same : token_of s c.split_seat-place.result ≡ token_first p i = λ j. record { of = its (tbl j) s; account = head_account (r j).0 } in
    record {
      same_table = c.split_seat-place.ensures.0 ∙ c.loop-who.invariant.same_table;
      view = c.split_seat-place.ensures.2 ∙ (λ j. (drop 1 (v j), w j));
      made = c.in_ok-push.ensures.items ∙ (λ j. c.loop-who.invariant.made j ++ same j ∷ []) ∙ (ap (λ (z : ℕ). first_tokens p 0 i ++ token_first p z ∷ []) zero_and ∙ sym (first_tokens_more p 0 i));
    }

pub returns-clause-of : goal.returns-clause-of
returns-clause-of c =
    let s : Start = record { geometry = c.args.geometry; first_era = c.args.first_era; tables = c.args.tables } in
    let p : Its = its c.in_ok-words.words.shared.table_id s in
    subst (AllOf p) (sym c.loop-who.invariant.made) (of_first p 0 c.loop-who.who)

pub invariant_of-result : goal.invariant_of-result
invariant_of-result c =
    let s : Start = record { geometry = c.args.geometry; first_era = c.args.first_era; tables = c.args.tables } in
    let z = c.in_ok-words.ensures in (z.5, z.0 ∙ long s _ (c.as_slice.ensures.value ∙ c.in_ok-first.ensures), z.1, c.requires.geometry)
