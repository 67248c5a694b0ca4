use Rattle.std.proofs.Common.{◌≡◌, false, List, [], ap}
use Rattle.shm_script.specs.{Values.{Scripted, Traced}, Drawing.{drawn_scripts, first}}
use Rattle.shm_script.proofs.Drawn.{script_goes_on, scripts_done, trace_fits}
use Rattle.shm_script.proofs.draw.generate.Goals as goal

-- the trace with these scripts
abbrev traced_of : List Scripted → Traced
traced_of ss = record { clients = 4; segments = 16; wide = false; order = []; scripts = ss }

pub loop-client-preserved : goal.loop-client-preserved
loop-client-preserved c =
    rw c.in_ok-push.ensures.items (script_goes_on c.loop-client.scripts.items c.args.size c.loop-client.client c.loop-client.draw c.script.new.self c.in_ok-script.field-0 (drawn_scripts c.args.size 0 4 (first c.args.start)) c.loop-client-test.true c.in_ok-script.ensures c.loop-client.invariant)

pub invariant_of-result : goal.invariant_of-result
invariant_of-result c =
    let is : c.loop-client.scripts.items ≡ drawn_scripts c.args.size 0 4 (first c.args.start) = scripts_done c.loop-client.scripts.items c.args.size c.loop-client.client c.loop-client.draw (drawn_scripts c.args.size 0 4 (first c.args.start)) c.loop-client-test.false c.loop-client.invariant in
    rw (c.new.ensures.items, is) (trace_fits c.args.start c.args.size c.requires.few)

pub returns : goal.returns
returns c =
    let is : c.loop-client.scripts.items ≡ drawn_scripts c.args.size 0 4 (first c.args.start) = scripts_done c.loop-client.scripts.items c.args.size c.loop-client.client c.loop-client.draw (drawn_scripts c.args.size 0 4 (first c.args.start)) c.loop-client-test.false c.loop-client.invariant in
    rw c.new.ensures.items (ap traced_of is)
