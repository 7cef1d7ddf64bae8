use Rattle.std.proofs.Common.{◌∙◌, ap}
use Rattle.crash_disk.specs.Disk.{content}
use Rattle.crash_disk.proofs.Held.{holds_content}
use Rattle.told_files.proofs.Adding.{told_alike}
use Rattle.told_files.proofs.uses.file_holds_what_is_told.Goals as goal

pub returns : goal.returns
returns c = λ history is all.
    let disk = c.args.disk.now in
    disk.file.held all
    ∙ holds_content disk.file.log.notes.past.began disk.past.calls disk.file.log.notes.past.calls c.file.ensures.made all
    ∙ ap content (told_alike _ history is)
