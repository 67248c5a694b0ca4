use Rattle.std.proofs.{Common.{◌≡◌, length, refl, sym, ap, ◌∙◌}, lemmas.Option.{slice_get_read, slice_get_within}}
use Rattle.std.specs.Prelude.{Some, slice_get}
use Rattle.shm_count.specs.Roots.{member}
use Rattle.shm_script.specs.Values.{Traced}
use Rattle.shm_agents.specs.Turns.{script_in}
use Rattle.shm_replay.specs.Replays.{start_of}
use Rattle.shm_replay.proofs.{Gathering.same_some, Starting.{new_seat, none_seat}}
use Rattle.shm_replay.proofs.replaying.agents_of.Goals as goal

pub returns-in-None : goal.returns-in-None
returns-in-None g c =
    let scripts : c.args.trace.now.scripts ≡ c.as_slice-scripts.result.now = (let v = ap (λ (t : Traced). t.scripts) c.trace.view_is in cc) in
    none_seat c.args.trace.now c.in_grammar.ensures c.args.who c.requires.who (ap (λ ss. script_in ss c.args.who) scripts ∙ c.in-None.ensures)

pub returns-in_ok-agents-in-Some : goal.returns-in_ok-agents-in-Some
returns-in_ok-agents-in-Some g c =
    let t = c.args.trace.now in
    let ss = c.as_slice-scripts.result.now in
    let scripts : t.scripts ≡ ss = (let v = ap (λ (x : Traced). x.scripts) c.trace.view_is in cc) in
    let at = c.in-Some.at in
    let r = c.index-scripts-at.result in
    let (s, has, is) = c.in-Some.ensures in
    let low = slice_get_within ss at s has in
    let here : slice_get ss at ≡ Some r = slice_get_read ss (length ss) at r refl low c.index-scripts-at.is in
    let same : s ≡ r = same_some s r (sym has ∙ here) in
    let me : c.new.result ≡ member (start_of t).geometry c.args.who = (λ i. record { geometry = (c.new.ensures.geometry ∙ c.requires.geometry) i; who = c.new.ensures.who i }) in
    let made = c.in_ok-agents-in-Some.ensures in
    new_seat t c.in_grammar.ensures c.args.who c.requires.who at r c.new.result c.in_ok-agents-in-Some.agents (ap (λ xs. slice_get xs at) scripts ∙ here) (ap (λ xs. script_in xs c.args.who) scripts ∙ (is ∙ ap Some same)) me made.me made.script made.stands
