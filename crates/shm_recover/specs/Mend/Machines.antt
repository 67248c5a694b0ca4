-- a mending as it is made: when it fits, what it gives, and what it tells of its events
use Rattle.std.specs.Prelude.{List}
use Rattle.shm_graph.specs.{declared.{ask.Me.Me, memo.Memo.Memo}, Asks.Trail, Events.Event, Laws.Control}
use Rattle.shm_graph.specs.Tells.{happens_along}
use Rattle.plans.specs.{declared.calls.Calls.Calls, CallsControl.{calls_control, calls_of, calls_does}}
use Rattle.plans.specs.CallsFit.{CallsFits, CallsGives}
use Rattle.shm_recover.specs.declared.mend.MendState.{MendState}
use Rattle.shm_recover.specs.Mend.{Control.{MendCall, mend_parts, mending, mend_steered}, mend_plan}

abbrev pub mend : Control (Calls MendState MendCall) (Unit {0})
mend = calls_control mend_parts mend_steered

abbrev pub MendFits : Me → Memo → Memo → Trail → Type 0
MendFits me = CallsFits mend_parts mend_plan (calls_of mend_steered (mending me))

abbrev pub MendGives : Me → Memo → Memo → Trail → Unit {0} → Type 0
MendGives me = CallsGives mend_parts mend_plan (calls_of mend_steered (mending me))

abbrev pub mend_told : Me → Trail → List Event
mend_told me = happens_along mend (calls_does mend_parts mend_plan) (calls_of mend_steered (mending me))
