-- The calls of a file, as the code names them.
use Rattle.crash_disk.specs.FileCalls.{FileAsk, finds, makes, fits, measures, reaches, gets, puts, syncs_bytes, opens_folder, syncs_name, marks, looks}
use Rattle.crash_disk.specs.declared.notes.FileStep.{FileStep}
use Rattle.crash_disk.specs.declared.notes.FileStep.TheVariants.{Find, Make, Fit, Measure, Reach, Get, Put, SyncBytes, OpenFolder, SyncName, Mark, Look}

-- what a call asks for
abbrev pub ask_of : FileStep → FileAsk
ask_of (Find there) = finds there
ask_of Make = makes
ask_of (Fit place count) = fits place count
ask_of Measure = measures
ask_of (Reach place) = reaches place
ask_of (Get place count) = gets place count
ask_of (Put place bytes) = puts place bytes.now
ask_of SyncBytes = syncs_bytes
ask_of OpenFolder = opens_folder
ask_of SyncName = syncs_name
ask_of Mark = marks
ask_of Look = looks
