-- A record with another status.
use Rattle.controller.specs.declared.records.Controller.{Controller}
use Rattle.controller.specs.declared.records.Status.{Status}

abbrev pub with_status : Controller → Status → Controller
with_status r s = record r { status = s }
