mod Lived
