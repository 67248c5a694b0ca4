use Rattle.std.proofs.Common.{◌≡◌, ℕ, ◌<◌, ◌≤◌, List, ap, sym, ◌∙◌, subst}
use Rattle.atomic_table.specs.Table.{Me as Mine}
use Rattle.shm_graph.specs.declared.run.{Start.Start, Account.Account}
use Rattle.shm_pool.specs.{Rules.{Rule, count_in}, Tokens.{Its, accounts_of, by_who, head_view, AllStill, IsClosedRun}}
use Rattle.shm_pool.proofs.Ends.{ends}
use Rattle.shm_pool.proofs.pool.SharedPool.finish.Goals as goal

pub invariant_of-result : goal.invariant_of-result
invariant_of-result c = let e = c.close_with-last.ensures.values.2 in let g : Start = c.self.inside.start in let key : c.self.inside.words.shared.key ≡ g = c.self.invariant.0 in
    let v : List Account = c.take_in-seat.result.me.0 in let view : v ≡ accounts_of c.args.all.items = ap (λ (m : Mine (Unit {0}) (List Account)). m.0) c.take_in-seat.ensures.view in
    let named : g ≡ c.args.self.start = ap (λ (n : Its). n.start) c.self.view_is in
    let rule : Rule g e.0.words e.0.views = subst (λ (z : Start). Rule z e.0.words e.0.views) key e.1.0 in
    let still : AllStill v = subst AllStill (sym view) c.take_in-seat.ensures.still in
    let all : (k : ℕ) → k < g.geometry.clients → 1 ≤ count_in k v = λ k l. subst (λ (z : List Account). 1 ≤ count_in k z) (sym view) (c.requires.all k (subst (λ (z : Start). k < z.geometry.clients) named l)) in
    let end = ends g e.0.words e.0.views c.take_in-seat.result.id v rule e.1.1 still all in
    let words : e.0.words ≡ c.copy_words.new.words.items = e.2 ∙ sym c.copy_words.ensures in
    let kept : by_who 0 g.geometry.clients v ≡ head_view c.keep-badge.result.views = sym (ap head_view c.keep-badge.ensures ∙ ap (λ (n : ℕ). by_who 0 n v) c.clients.ensures) in
    subst (λ (ws : List ℕ). IsClosedRun g ws (head_view c.keep-badge.result.views)) words (subst (λ (rs : List Account). IsClosedRun g e.0.words rs) kept end)
