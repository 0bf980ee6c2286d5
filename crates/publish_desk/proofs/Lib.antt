-- Lists: lists read from their ends. Room: a legal journal has no more entries than there are jobs. Places: the places of jobs and of
-- versions after one more entry. Publish, Whole: what holds of a desk after a dossier's entry. OneJournal: one worker's journal is one.
-- Texts: the parts of a report. Opening: a desk that opens, and missing jobs. Fitting: which dossiers fit. Crossing: a desk may be moved
-- to another thread and be shared.
pub mod Lists
-- A legal journal has no more entries than there are jobs.
pub mod Room
-- The places of jobs and of versions, after one more entry.
pub mod Places
-- A dossier that is published keeps what holds of a desk.
pub mod Publish
-- One worker's journal is one.
pub mod OneJournal
-- The text of entries, as far as a loop has come, and the parts of a report.
pub mod Texts
-- All that a desk keeps, after a dossier's entry.
pub mod Whole
-- A desk that opens, and the jobs that are missing.
pub mod Opening
-- Which dossiers fit a desk: those of its present store, and those that fitted it before.
pub mod Fitting
-- A desk may be moved to another thread and be shared by threads.
pub mod Crossing
-- The accepted entries since a version.
pub mod Changes
