-- FirstAccepted: the first proposal of a list that is accepted, as far as the list was tried. Fits: what is found in a desk's
-- present store fits it. Adding: what a caller that takes the jobs in ascending order has added to a journal. Onward: a journal that goes
-- on. Found: what a seat knows after a look and after a publish. Gathered: what is gathered for a seat fits what it has seen. Telling: what
-- it is told of news. Leading: what was accepted since a version leads to the present store. Publishable: what a worker may publish after
-- Again. Posts: the last seat of a list. Crossing: a `JobSource` may be moved to another thread and be shared. Sharing: so may a desk, a
-- worker's post and a shared store.
pub mod FirstAccepted
-- What is found in a desk's present store fits the desk.
pub mod Fits
-- What a caller that takes the jobs in ascending order has added to a journal.
pub mod Adding
-- A journal that goes on keeps its earlier stores and versions, and a dossier that fitted it fits it still.
mod Onward
-- What a seat knows after a look and after a publish, over the desk that was found under the turn.
mod Found
-- What is gathered for the store that a seat sees fits the journal that it has seen.
mod Gathered
-- What a seat is told of the news of the desk that was found under the turn.
mod Telling
-- The accepted entries of a legal journal since a version lead from its store at that version to its present one.
mod Leading
-- What a worker is told after Again is what carrying asks, and a dossier that was carried, or was gathered anew, may be published.
mod Publishable
-- What holds of all members of a list holds of the last, of those before it, and of each as something weaker.
mod Posts
-- What the dossiers of jobs are made of may be moved to another thread and be shared by threads.
mod Crossing
-- A desk may go to another thread, and with it a worker's post; a shared store may be shared.
mod Sharing
