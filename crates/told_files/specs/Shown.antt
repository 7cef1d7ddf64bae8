-- What a file in memory shows.
use Rattle.told_files.specs.States.{FileState}
use Rattle.told_files.specs.declared.memory_file.MemoryFile.{MemoryFile}

-- its state
abbrev pub shown : MemoryFile → FileState
shown file = record {
  began = file.log.notes.past.began;
  calls = file.log.notes.past.calls;
  there = file.is_there;
  named = file.is_named;
  bytes = file.bytes.items;
  fuse = file.log.fuse;
}
