use Rattle.shm_words.proofs.Placing.{place-address, address_below, address-place, in_place, total_most, total_most_wide, total_in_format}
use Rattle.shm_words.proofs.layout.place_laws.Goals as goal

pub returns-clause-place : goal.returns-clause-place
returns-clause-place c = λ g p f h. place-address g p h

pub returns-clause-below : goal.returns-clause-below
returns-clause-below c = λ g p f h. address_below g p h f

pub returns-clause-address : goal.returns-clause-address
returns-clause-address c = λ g a f l. address-place g a l

pub returns-clause-within : goal.returns-clause-within
returns-clause-within c = in_place

pub returns-clause-size : goal.returns-clause-size
returns-clause-size c = total_most

pub returns-clause-size_wide : goal.returns-clause-size_wide
returns-clause-size_wide c = total_most_wide

pub returns-clause-small : goal.returns-clause-small
returns-clause-small c = total_in_format
