-- the events that a command tells of are those of the one of its machines that runs
use Rattle.std.proofs.Common.{◌≡◌, ℕ, refl, ap, ◌∙◌, List, [], ◌∷◌}
use Rattle.std.specs.List.{filter}
use Rattle.shm_graph.specs.{Asks.Trail, Events.Event, Laws.Control, Mapped.mapped}
use Rattle.shm_graph.specs.Tells.{happens_along, is_event, tells_along}
use Rattle.plans.specs.{declared.or.Or.TheVariants.{First, Second}, CallsControl.calls_does}
use Rattle.plans.specs.Either.{or_control, or_does}
use Rattle.shm_table.specs.Command.{CommandCall, command_control, command_does, command_parts, given}
use Rattle.shm_table.specs.{CopyKey.{Control.{CopyCalls, copy_parts}, copy_plan}, Del.Control.{DelCalls, del_parts}}
use Rattle.shm_table.specs.{Del.del_plan, Get.{Control.{GetCalls, get_parts}, get_plan}, Machines.Change.del}
use Rattle.shm_table.specs.Machines.{Copy.copy_control, Put.put, Get.get, Recv.recv_control, Send.send_key}
use Rattle.shm_table.specs.{Put.{Control.{PutCalls, put_parts}, put_plan}, RecvKey.Control.{RecvCalls, recv_parts}}
use Rattle.shm_table.specs.{RecvKey.recv_plan, SendKey.{Control.{SendKeyCalls, send_key_parts}, send_key_plan}}

-- ---- what is told by one of two, and where answers are told in another way

module _ {S T A B : Type 0} (j : Control S A) (k : Control T B) (f : S → ℕ → Event) (g : T → ℕ → Event) where
  told_first : (m : S) (tr : Trail) → tells_along (or_control j k) (or_does f g) (First m) tr ≡ tells_along j f m tr
  told_first m [] = refl
  told_first m (x ∷ tr) = ap (λ (es : List Event). f m x.word ∷ es) (told_first (j.after m x.word) tr)

  told_second : (m : T) (tr : Trail) → tells_along (or_control j k) (or_does f g) (Second m) tr ≡ tells_along k g m tr
  told_second m [] = refl
  told_second m (x ∷ tr) = ap (λ (es : List Event). g m x.word ∷ es) (told_second (k.after m x.word) tr)

told_mapped : {S A B : Type 0} (f : A → B) (k : Control S A) (does : S → ℕ → Event) (m : S) (tr : Trail) → tells_along (mapped f k) does m tr ≡ tells_along k does m tr
told_mapped f k does m [] = refl
told_mapped f k does m (x ∷ tr) = ap (λ (es : List Event). does m x.word ∷ es) (told_mapped f k does (k.after m x.word) tr)

-- ---- the command tells what the one of them does

abbrev put_does : PutCalls → ℕ → Event
put_does = calls_does put_parts put_plan

abbrev copy_does : CopyCalls → ℕ → Event
copy_does = calls_does copy_parts copy_plan

abbrev del_does : DelCalls → ℕ → Event
del_does = calls_does del_parts del_plan

abbrev get_does : GetCalls → ℕ → Event
get_does = calls_does get_parts get_plan

abbrev send_does : SendKeyCalls → ℕ → Event
send_does = calls_does send_key_parts send_key_plan

abbrev recv_does : RecvCalls → ℕ → Event
recv_does = calls_does recv_parts recv_plan

-- as the machine without what it is told by
unmapped : (m : CommandCall) (tr : Trail) → tells_along command_control command_does m tr ≡ tells_along command_parts command_does m tr
unmapped = told_mapped given command_parts command_does

pub puts_happen : (m : PutCalls) (tr : Trail) → happens_along command_control command_does (First (First m)) tr ≡ happens_along put put_does m tr
puts_happen m tr =
    ap (filter is_event)
    (unmapped (First (First m)) tr
    ∙ (told_first (or_control put copy_control) (or_control (or_control del get) (or_control send_key recv_control)) (or_does put_does copy_does) (or_does (or_does del_does get_does) (or_does send_does recv_does)) (First m) tr
    ∙ told_first put copy_control put_does copy_does m tr))

pub copies_happen : (m : CopyCalls) (tr : Trail) → happens_along command_control command_does (First (Second m)) tr ≡ happens_along copy_control copy_does m tr
copies_happen m tr =
    ap (filter is_event)
    (unmapped (First (Second m)) tr
    ∙ (told_first (or_control put copy_control) (or_control (or_control del get) (or_control send_key recv_control)) (or_does put_does copy_does) (or_does (or_does del_does get_does) (or_does send_does recv_does)) (Second m) tr
    ∙ told_second put copy_control put_does copy_does m tr))

pub dels_happen : (m : DelCalls) (tr : Trail) → happens_along command_control command_does (Second (First (First m))) tr ≡ happens_along del del_does m tr
dels_happen m tr =
    ap (filter is_event)
    (unmapped (Second (First (First m))) tr
    ∙ (told_second (or_control put copy_control) (or_control (or_control del get) (or_control send_key recv_control)) (or_does put_does copy_does) (or_does (or_does del_does get_does) (or_does send_does recv_does)) (First (First m)) tr
    ∙ (told_first (or_control del get) (or_control send_key recv_control) (or_does del_does get_does) (or_does send_does recv_does) (First m) tr
    ∙ told_first del get del_does get_does m tr)))

pub gets_happen : (m : GetCalls) (tr : Trail) → happens_along command_control command_does (Second (First (Second m))) tr ≡ happens_along get get_does m tr
gets_happen m tr =
    ap (filter is_event)
    (unmapped (Second (First (Second m))) tr
    ∙ (told_second (or_control put copy_control) (or_control (or_control del get) (or_control send_key recv_control)) (or_does put_does copy_does) (or_does (or_does del_does get_does) (or_does send_does recv_does)) (First (Second m)) tr
    ∙ (told_first (or_control del get) (or_control send_key recv_control) (or_does del_does get_does) (or_does send_does recv_does) (Second m) tr
    ∙ told_second del get del_does get_does m tr)))

pub sends_happen : (m : SendKeyCalls) (tr : Trail) → happens_along command_control command_does (Second (Second (First m))) tr ≡ happens_along send_key send_does m tr
sends_happen m tr =
    ap (filter is_event)
    (unmapped (Second (Second (First m))) tr
    ∙ (told_second (or_control put copy_control) (or_control (or_control del get) (or_control send_key recv_control)) (or_does put_does copy_does) (or_does (or_does del_does get_does) (or_does send_does recv_does)) (Second (First m)) tr
    ∙ (told_second (or_control del get) (or_control send_key recv_control) (or_does del_does get_does) (or_does send_does recv_does) (First m) tr
    ∙ told_first send_key recv_control send_does recv_does m tr)))

pub recvs_happen : (m : RecvCalls) (tr : Trail) → happens_along command_control command_does (Second (Second (Second m))) tr ≡ happens_along recv_control recv_does m tr
recvs_happen m tr =
    ap (filter is_event)
    (unmapped (Second (Second (Second m))) tr
    ∙ (told_second (or_control put copy_control) (or_control (or_control del get) (or_control send_key recv_control)) (or_does put_does copy_does) (or_does (or_does del_does get_does) (or_does send_does recv_does)) (Second (Second m)) tr
    ∙ (told_second (or_control del get) (or_control send_key recv_control) (or_does del_does get_does) (or_does send_does recv_does) (Second m) tr
    ∙ told_second send_key recv_control send_does recv_does m tr)))
