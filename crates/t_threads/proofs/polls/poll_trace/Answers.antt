use Rattle.std.proofs.Common.{◌≡◌, ℕ, List, [], ◌∷◌, sym, subst, ap, ◌∙◌}
use Rattle.std.specs.{Prelude.{Option, Some, None, slice_get}, List.AllByRecursion, Option.option_copied}
use Rattle.shm_graph.specs.declared.run.Start.{Start}
use Rattle.shm_script.specs.{Ranges.ScriptFits, Values.{Scripted, Traced}}
use Rattle.shm_pool.specs.Tokens.{Token}
use Rattle.t_pool.specs.Clients.{AllFirst}
use Rattle.t_pool.proofs.FirstTokens.{all_first}
use Rattle.t_threads.proofs.polls.poll_trace.Goals as goal

pub pop_of-requires : goal.pop_of-requires
pop_of-requires g c = subst (λ (ts : List Token). AllFirst c.in_ok-pool.pool ts) (sym c.in_ok-pool.ensures.tokens) (all_first c.in_ok-pool.pool 0 c.in-Ok.geometry.clients)

first_fits : (n : ℕ) (ss : List Scripted) (s : Scripted) → AllByRecursion (ScriptFits n) ss → slice_get ss 0 ≡ Some s → ScriptFits n s
first_fits n [] s a e = absurd (cc)
first_fits n (x ∷ ss) s a e = let q : x ≡ s = cc in subst (ScriptFits n) q a.0

pub poll_client-requires-clause-script : goal.poll_client-requires-clause-script
poll_client-requires-clause-script g c =
    let n : c.in_ok-pool.pool.start.geometry.clients ≡ c.args.trace.now.clients = ap (λ (s : Start). s.geometry.clients) c.in_ok-pool.ensures.start ∙ (c.in-Ok.ensures.sizes.0 ∙ ap (λ (x : Traced). x.clients) c.trace.view_is) in
    let first : slice_get c.args.trace.now.scripts 0 ≡ Some c.in-Some-Some.script.now = sym (ap (λ (x : Traced). slice_get x.scripts 0) c.trace.view_is) ∙ sym (ap option_copied (sym c.in-Some-Some.is-1) ∙ (c.first.ensures.value ∙ ap (λ (ss : List Scripted). slice_get ss 0) c.deref.ensures.value)) in
    subst (λ k. ScriptFits k c.in-Some-Some.script.now) (sym n) (first_fits c.args.trace.now.clients c.args.trace.now.scripts c.in-Some-Some.script.now c.in_grammar.ensures.scripts first)
